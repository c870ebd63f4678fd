-- A run, pick by pick; attempts as picks; runs of parts.
use Rattle.std.proofs.Common.{◌≡◌, ◌+◌, Bool, List, [], ◌∷◌, ◌++◌, refl, ap, sym, ◌∙◌}
use Rattle.fort_core.specs.declared.program.Program.{Program}
use Rattle.fort_core.specs.declared.pick.Pick.{Pick, Step, Attempt}
use Rattle.fort_core.specs.declared.term.Term.{Term}
use Rattle.fort_machine.specs.Effects.{Store, Effect, both, afterwards}
use Rattle.fort_machine.specs.Frames.{plug, trodden}
use Rattle.fort_machine.specs.Attempts.{Ended, goes}
use Rattle.fort_machine.specs.Runs.{Runs, none, step, stop, attempt, path_to, location}
use Rattle.fort_machine.specs.RunLaws.{SteppedGoesOn, Lifts, RunsJoin, RunsFit, AttemptIsOnePick, PickByPick, no_more, next, stopped, all_of, outputs, costs, PicksAddUp}
use Rattle.fort_machine.proofs.WholeEffects.{both_idle}
use Rattle.fort_machine.proofs.Runs.{runs_fit, append, passed_trodden, lift}

pub lifts : Lifts
lifts p inner fs s ps t r d v m k = lift fs s ps t r d v m k

pub stepped_goes_on : SteppedGoesOn
stepped_goes_on fs t = passed_trodden fs t

pub runs_join : RunsJoin
runs_join p inner strict s ps qs t u r d e k k2 = append s ps t (goes u) d k u refl qs r e k2

pub all_fit : RunsFit
all_fit p inner strict s ps t r d k = runs_fit s ps t r d k

pub attempt_is_one_pick : AttemptIsOnePick
attempt_is_one_pick p inner strict m fs s within a b body r d e n form bare may k close =
    attempt fs refl refl n form bare may k close (none refl refl refl) (sym (both_idle e))

abbrev ByPicks : Program → Bool → Bool → Store → List Pick → Term → Ended → Effect → Type 0
ByPicks p inner strict s picks t r d = (effects : List Effect)
    × PickByPick p inner strict s picks t r effects × (d ≡ all_of effects)

by_picks : (p : Program) (inner strict : Bool) (s : Store) (picks : List Pick) (t : Term)
    (r : Ended) (d : Effect) → Runs p inner strict s picks t r d
    → ByPicks p inner strict s picks t r d
by_picks p inner strict s picks t r d (none a b c) = ([], no_more a b refl, c)
by_picks p inner strict s picks t r d
    (step {rest = rest} {b = b} {d1 = d1} {d2 = d2} {loc = loc} fs e c n l f k w) =
    let i = by_picks p inner strict (afterwards d1 s) rest (plug (trodden fs) b) r d2 k in (
      d1 ∷ i.0,
      next (Step (path_to fs) (location loc)) d1 e
          (step fs refl c n l f (none refl refl refl) (sym (both_idle d1))) i.1 refl,
      w
          ∙ ap (both d1) i.2,
    )
by_picks p inner strict s picks t r d (stop fs a e c n h x w) = (
  d ∷ [],
  stopped (Step (path_to fs) (location 0)) d e (stop fs a refl c n h refl w) x refl,
  sym (both_idle d),
)
by_picks p inner strict s picks t r d
    (attempt {within = within} {rest = rest} {b = b} {d2 = d2} {d3 =
    d3} fs e c n l bare may k close k' w) =
    let i = by_picks p inner strict (afterwards d2 s) rest (plug (trodden fs) b) r d3 k' in (
      d2 ∷ i.0,
      next (Attempt (path_to fs) within) d2 e
          (attempt fs refl c n l bare may k close (none refl refl refl) (sym (both_idle d2))) i.1
          refl,
      w ∙ ap (both d2) i.2,
    )

out_all : (ds : List Effect) → (all_of ds).output ≡ outputs ds
out_all [] = refl
out_all (d ∷ ds) = ap (λ x. d.output ++ x) (out_all ds)

cost_all : (ds : List Effect) → (all_of ds).cost ≡ costs ds
cost_all [] = refl
cost_all (d ∷ ds) = ap (λ x. d.cost + x) (cost_all ds)

pub picks_add_up : PicksAddUp
picks_add_up p inner strict s picks t r d k =
    let i = by_picks p inner strict s picks t r d k in (
      i.0,
      i.1,
      i.2,
      ap (λ (x : Effect). x.output) i.2 ∙ out_all i.0,
      ap (λ
          (x : Effect). x.cost) i.2 ∙ cost_all i.0,
    )
