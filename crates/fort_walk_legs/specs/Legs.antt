-- Chapter "Legs": steps of a part's threads that are taken beside the run, on the store to which it
-- had come. The code keeps what they did in a layer of their own.
use Rattle.std.specs.Prelude.{Bool, true, List, [], ◌∷◌}
use Rattle.fort_core.specs.declared.pick.Pick.{Pick, out-Pick}
use Rattle.fort_core.specs.declared.pick.Pick.TheOpen.{Pick-F}
use Rattle.fort_core.specs.declared.program.Program.{Program}
use Rattle.fort_core.specs.declared.term.Term.{Term}
use Rattle.fort_machine.specs.Effects.{Store, Effect, afterwards}
use Rattle.fort_machine.specs.Frames.{Frame, plug}
use Rattle.fort_machine.specs.Attempts.{goes}
use Rattle.fort_machine.specs.OneDefinition.{IsOne}
use Rattle.fort_machine.specs.Proper.{Reached}
use Rattle.fort_machine.specs.Runs.{Runs}

-- A pick is a step, and no attempt.
abbrev pub IsStepOf : Pick-F Pick → Type 0
IsStepOf (Pick-F.Step path loc) = Unit {0}
IsStepOf (Pick-F.Attempt path within) = ⊥

-- All picks are steps.
abbrev pub AreSteps : List Pick → Type 0
AreSteps [] = Unit {0}
AreSteps (pick ∷ picks) = IsStepOf (out-Pick pick) × AreSteps picks

-- A leg: steps that lead from a term to another one on a store, in a machine, an attempt's or the
-- root's, and what they do.
pub record IsLeg (p : Program) (inner : Bool) (s : Store) (t : Term) (picks : List Pick) (u : Term)
    (d : Effect) : Type 0 where
  pub runs : Runs p inner true s picks t (goes u) d
  pub steps : AreSteps picks

-- A term stands in one to which a machine of the program comes, and in that one each call of values
-- has its one definition.
pub record StandsInRun (p : Program) (inner : Bool) (s : Store) (t : Term) : Type 0 where
  pub frames : List Frame
  pub reached : Reached p inner s (plug frames t)
  pub one : IsOne p (plug frames t)

-- Wherever legs lead from a term on a store, that stands in a term of a run.
abbrev pub IsInReach : Program → Bool → Store → Term → Type 0
IsInReach p inner s t = (picks : List Pick) (u : Term) (d : Effect) → IsLeg p inner s t picks u d
    → StandsInRun p inner (afterwards d s) u
