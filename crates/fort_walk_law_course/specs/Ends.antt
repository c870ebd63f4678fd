-- Chapter "Journals": how a run ends, with what it printed and cost; and the pick that passes the
-- fuel, in the innermost of the machines.
use Rattle.std.specs.Prelude.{◌≡◌, ℕ, ◌+◌, ◌<◌, true, List, [], ◌∷◌, ◌⊎◌}
use Rattle.fort_core.specs.declared.journal.Ending.{Ending}
use Rattle.fort_core.specs.declared.pick.Pick.{Pick}
use Rattle.fort_core.specs.declared.program.Program.{Program}
use Rattle.fort_core.specs.declared.term.Term.{Term}
use Rattle.fort_machine.specs.Effects.{Effect}
use Rattle.fort_machine.specs.Attempts.{Ended, goes}
use Rattle.fort_machine.specs.Runs.{Runs, Begun}
use Rattle.fort_machine.specs.Journals.{Records, MakesWithinBounds}
use Rattle.fort_store_effects.specs.Levels.{Levels, seen, spent}
use Rattle.fort_walk_law_course.specs.Course.{Held, Comes, is_inner}

-- A run of a program with a fuel: its picks, how it ended, what it printed, and what it cost.
pub record HasRun (p : Program) (fuel : ℕ) (picks : List Pick) (ending : Ending) (output : List ℕ)
    (cost : ℕ) : Type 0 where
  pub term : Term
  pub effect : Effect
  pub records : Records p (record { fuel = fuel; picks = picks; ending = ending }) term effect
  pub is_output : output ≡ effect.output
  pub is_cost : cost ≡ effect.cost

-- The innermost machine has come to a term from which a pick is legal, or is an attempt that isn't
-- finished; and what it costs passes the fuel that is left.
pub record PassesLast (p : Program) (fuel : ℕ) (v : Levels) (picks : List Pick) (ws : List Held)
    (now : ℕ) (pick : Pick) : Type 0 where
  pub term : Term
  pub comes : Comes p fuel v picks ws now (goes term)
  pub effect : Effect
  pub is_next : ((r : Ended) × Runs p (is_inner ws) true (seen v) (pick ∷ []) term r effect)
      ⊎ Begun p true (seen v) pick term effect
  pub bounded : MakesWithinBounds effect
  pub passes : fuel < spent v + effect.cost
