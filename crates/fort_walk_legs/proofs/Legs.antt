-- Legs, one after the other and of parts.
use Rattle.std.proofs.Common.{◌≡◌, ℕ, Bool, true, false, List, [], ◌∷◌, ◌++◌, map, refl, sym, subst}
use Rattle.fort_core.specs.declared.path.Path.{Path}
use Rattle.fort_core.specs.declared.pick.Pick.{Pick, Attempt, out-Pick}
use Rattle.fort_core.specs.declared.pick.Pick.TheOpen.{Pick-F}
use Rattle.fort_core.specs.declared.pick.Pick.TheVariants.{outs-Step, outs-Attempt}
use Rattle.fort_core.specs.declared.program.Program.{Program}
use Rattle.fort_core.specs.declared.term.Term.{Term}
use Rattle.fort_machine.specs.Effects.{Store, Effect, afterwards}
use Rattle.fort_machine.specs.Frames.{plug, road, trodden}
use Rattle.fort_machine.specs.Attempts.{Ended, goes}
use Rattle.fort_machine.specs.Runs.{Runs, none, step, stop, attempt}
use Rattle.fort_machine.specs.OneDefinition.{IsOne}
use Rattle.fort_machine.specs.Proper.{Reached}
use Rattle.fort_machine.specs.Threads.{under, under_at, round_after}
use Rattle.fort_machine.proofs.Legs.{one_store}
use Rattle.fort_machine.proofs.Runs.{append, lift, plug_append}
use Rattle.fort_walk_legs.specs.Legs.{IsStepOf, AreSteps}
use Rattle.fort_walk_legs.specs.Laws.{LegIsFramed, LegsJoin, LegLifts, PartIsInReach}

-- picks of which the first is an attempt
pub no_attempt : (path : Path) (within rest picks : List Pick) → picks ≡ Attempt path within ∷ rest
    → AreSteps picks → ⊥
no_attempt path within rest picks e h = subst IsStepOf (outs-Attempt path within) (subst AreSteps e h).0

-- steps are legal with the rule on sleeping forms and without it
pub steps_alike : {p : Program} {inner strict : Bool} (other : Bool) (s : Store) (picks : List Pick)
    (t : Term) (r : Ended) (d : Effect) → Runs p inner strict s picks t r d → AreSteps picks
    → Runs p inner other s picks t r d
steps_alike other s picks t r d (none a b c) h = none a b c
steps_alike other s picks t r d
    (step {rest = rest} {b = b} {d1 = d1} {d2 = d2} fs a c n l f k w) h =
    step fs a c n l f
    (steps_alike other (afterwards d1 s) rest (plug (trodden fs) b) r d2 k (subst AreSteps a h).1) w
steps_alike other s picks t r d (stop fs a b c n e q w) h = stop fs a b c n e q w
steps_alike other s picks t r d (attempt {within = within} {rest = rest} fs a c n l bare may k close k' w) h =
    absurd (no_attempt _ within rest picks a h)

pub steps_append : (picks more : List Pick) → AreSteps picks → AreSteps more → AreSteps (picks ++ more)
steps_append [] more h k = k
steps_append (pick ∷ picks) more h k = (h.0, steps_append picks more h.1 k)

-- with a path before theirs they are steps
under_stays : (path : List ℕ) (pick : Pick-F Pick) → IsStepOf pick → IsStepOf (out-Pick (under_at path pick))
under_stays path (Pick-F.Step q loc) h = subst IsStepOf (sym (outs-Step _ loc)) tt
under_stays path (Pick-F.Attempt q within) h = absurd h

pub steps_under : (path : List ℕ) (picks : List Pick) → AreSteps picks → AreSteps (map (under path) picks)
steps_under path [] h = tt
steps_under path (pick ∷ picks) h = (under_stays path (out-Pick pick) h.0, steps_under path picks h.1)

pub leg_is_framed : LegIsFramed
leg_is_framed p inner s s' t u picks d leg f = record {
  runs = steps_alike true s' picks t (goes u) d
      (one_store p inner s s' picks t (goes u) d (steps_alike false s picks t (goes u) d leg.runs leg.steps) f)
      leg.steps;
  steps = leg.steps;
}

pub legs_join : LegsJoin
legs_join p inner s t u v picks more d e leg next = record {
  runs = append s picks t (goes u) d leg.runs u refl more (goes v) e next.runs;
  steps = steps_append picks more leg.steps next.steps;
}

pub leg_lifts : LegLifts
leg_lifts p inner fs s t u picks d v m leg =
    let steps = steps_under (road fs) picks leg.steps in
    record {
      runs = steps_alike true s (map (under (road fs)) picks) (plug fs t) _ d
          (lift fs s picks t (goes u) d v m (steps_alike false s picks t (goes u) d leg.runs leg.steps))
          steps;
      steps = steps;
    }

pub part_is_in_reach : PartIsInReach
part_is_in_reach p inner fs s t v m reach picks u d leg =
    let gs = round_after picks fs in
    let whole = reach _ _ d (leg_lifts p inner fs s t u picks d v m leg) in
    let same : plug whole.frames (plug gs u) ≡ plug (whole.frames ++ gs) u =
    sym (plug_append whole.frames gs u) in
    record {
      frames = whole.frames ++ gs;
      reached = subst (Reached p inner (afterwards d s)) same whole.reached;
      one = subst (IsOne p) same whole.one;
    }
