-- A run ends, or its fuel does.
use Rattle.std.proofs.Common.{◌≡◌, ℕ, ◌+◌, ◌<◌, true, List, [], ◌∷◌, ◌++◌, refl, ap, sym, ◌∙◌, subst, arith}
use Rattle.fort_core.specs.declared.form.Mode.{Mode}
use Rattle.fort_core.specs.declared.journal.Ending.{Ending}
use Rattle.fort_core.specs.declared.journal.Ending.TheVariants.{Completed, Uncaught, OutOfFuel}
use Rattle.fort_core.specs.declared.path.Path.{Path}
use Rattle.fort_core.specs.declared.pick.Pick.{Pick, Step, Attempt}
use Rattle.fort_core.specs.declared.program.Program.{Program}
use Rattle.fort_core.specs.declared.term.Term.{Term}
use Rattle.fort_core.specs.declared.term.Term as term
use Rattle.fort_core.specs.declared.value.Value.{Value}
use Rattle.fort_machine.specs.Effects.{Effect}
use Rattle.fort_machine.specs.Ends.{throw_of}
use Rattle.fort_machine.specs.Acts.{ends, unit}
use Rattle.fort_machine.specs.Steps.{Acts}
use Rattle.fort_machine.specs.Attempts.{Ended, goes}
use Rattle.fort_machine.specs.Runs.{location}
use Rattle.fort_frames.specs.declared.place.Place.{Place}
use Rattle.fort_store_effects.specs.Levels.{Levels, levels_of, spent, with_attempts}
use Rattle.fort_walk_law_course.specs.Course.{Held, Comes, IsCourse, is_inner}
use Rattle.fort_walk_law_course.specs.Ends.{HasRun, PassesLast}
use Rattle.fort_walk_law_course.proofs.Passes.{completed_run, uncaught_run, step_passes, abort_passes, attempt_passes, last_goes_out, run_passes}
use Rattle.fort_walk_course.specs.declared.course.Course.{Course}
use Rattle.fort_walk_course.specs.declared.course.Waiting.{Waiting}
use Rattle.fort_walk_course.specs.declared.ending.Ran.{Ran}
use Rattle.fort_walk_course.specs.Courses.{HasCome, around, held, inwards}
use Rattle.fort_walk_course.specs.Calls.{MayTry, MayAbort, PassesAt, IsEnded, IsRun}
use Rattle.fort_walk_course.specs.Picked.{picks_from, root_picks}
use Rattle.fort_walk_course.proofs.Around.{last_is_first}

-- ---- a run that ends

ran_by : (p : Program) (c : Course) (ending : Ending) (r : Ran) → IsEnded c ending r
    → HasRun p c.fuel c.picks ending (levels_of c.layers).output (levels_of c.layers).cost
    → IsRun p c.fuel r
ran_by p c ending r e h =
    let one =
    subst (λ ps. HasRun p c.fuel ps ending (levels_of c.layers).output
    (levels_of c.layers).cost) (sym e.are_picks) h in
    let two =
    subst (λ x. HasRun p c.fuel r.journal.picks x (levels_of c.layers).output
    (levels_of c.layers).cost) (sym e.is_ending) one in
    let three =
    subst (λ o. HasRun p c.fuel r.journal.picks r.journal.ending o (levels_of c.layers).cost)
    (sym e.is_output) two in
    record {
      is_fuel = e.is_fuel;
      run = subst (λ n. HasRun p c.fuel r.journal.picks r.journal.ending r.output n)
          (sym e.is_cost) three;
    }

root_comes : (p : Program) (c : Course) (r : Ended) → HasCome p c r → c.outer ≡ []
    → Comes p c.fuel (levels_of c.layers) c.picks [] c.clock r
root_comes p c r h o =
    subst (λ hs. Comes p c.fuel (levels_of c.layers) c.picks hs c.clock r)
    (ap (λ os. inwards os []) o) h.comes

pub ends_completed : (p : Program) (c : Course) (r : Ran) → HasCome p c (goes (term.Value unit))
    → c.outer ≡ [] → IsEnded c Completed r → IsRun p c.fuel r
ends_completed p c r h o e =
    ran_by p c Completed r e
    (completed_run p c.fuel (levels_of c.layers) c.picks c.clock
    (root_comes p c (goes (term.Value unit)) h o))

pub ends_uncaught : (p : Program) (c : Course) (r : Ran) (v : Value)
    → HasCome p c (goes (throw_of v)) → c.outer ≡ [] → IsEnded c (Uncaught v) r → IsRun p c.fuel r
ends_uncaught p c r v h o e =
    ran_by p c (Uncaught v) r e
    (uncaught_run p c.fuel (levels_of c.layers) c.picks c.clock v
    (root_comes p c (goes (throw_of v)) h o))

-- ---- the pick that is next

abbrev pub Passes : Program → Course → Pick → Type 0
Passes p c pick = PassesLast p c.fuel (levels_of c.layers) c.picks (around c) c.clock pick

pub step_is_last : (p : Program) (c : Course) (place : Place) (path : Path) (loc : ℕ)
    → PassesAt p c place loc → path ≡ place.path → Passes p c (Step path (location loc))
step_is_last p c place path loc h e =
    let m = h.may in
    let known = m.stands.is_spent in
    let passes = h.passes in
    subst (λ x. Passes p c (Step x (location loc))) (sym e)
    (step_passes p c.fuel (levels_of c.layers) c.picks (around c) c.clock c.fresh loc place m.form
    h.next h.effect m.stands.course m.local h.fits h.bounded (omega (arith, passes, known)))

pub attempt_is_last : (p : Program) (c : Course) (place : Place) (path : Path) (none : List Pick)
    (m : Mode) (body : Term) → MayTry p c place m body → c.fuel < c.spent + 1 → path ≡ place.path
    → none ≡ [] → Passes p c (Attempt path none)
attempt_is_last p c place path none m body t passes e n =
    let known = t.stands.is_spent in
    subst (λ ps. Passes p c (Attempt path ps)) (sym n)
    (subst (λ x. Passes p c (Attempt x [])) (sym e)
    (attempt_passes p c.fuel (levels_of c.layers) c.picks (around c) c.clock c.fresh place m t.form
    body t.stands.course t.is_form t.bare t.may (omega (arith, passes, known))))

abort_by : (p : Program) (fuel : ℕ) (v : Levels) (picks : List Pick) (hs : List Held)
    (clock fresh : ℕ) (place : Place) (a : Term) → is_inner hs ≡ true
    → IsCourse p fuel v picks hs clock fresh place a → Acts p a ends → fuel < spent v + 1
    → PassesLast p fuel v picks hs clock (Step place.path (location 0))
abort_by p fuel v picks [] clock fresh place a i c acts passes = absurd cc
abort_by p fuel v picks (h ∷ hs) clock fresh place a i c acts passes =
    abort_passes p fuel v picks h hs clock fresh place a c acts passes

pub abort_is_last : (p : Program) (c : Course) (place : Place) (path : Path) → MayAbort p c place
    → c.fuel < c.spent + 1 → path ≡ place.path → Passes p c (Step path (location 0))
abort_is_last p c place path m passes e =
    let known = m.stands.is_spent in
    subst (λ x. Passes p c (Step x (location 0))) (sym e)
    (abort_by p c.fuel (levels_of c.layers) c.picks (around c) c.clock c.fresh place m.form m.inside
    m.stands.course m.acts (omega (arith, passes, known)))

-- ---- out of attempts

-- the last pick of one of the machines, whatever the attempts within it did
abbrev pub StillPasses : Program → ℕ → Levels → List Pick → List Waiting → ℕ → Pick → Type 0
StillPasses p fuel v picks outer clock pick = (es : List Effect)
    × PassesLast p fuel (with_attempts v es) picks (inwards outer []) clock pick

pub passes_first : (p : Program) (c : Course) (pick : Pick) → Passes p c pick
    → StillPasses p c.fuel (levels_of c.layers) c.picks c.outer c.clock pick
passes_first p c pick h = ((levels_of c.layers).attempts, h)

pub passes_outer : (p : Program) (fuel : ℕ) (v : Levels) (picks before : List Pick)
    (outer rest : List Waiting) (w : Waiting) (clock : ℕ) (pick next : Pick)
    → StillPasses p fuel v picks outer clock pick → outer ≡ rest ++ w ∷ []
    → next ≡ Attempt w.place.path (picks ++ pick ∷ []) → before ≡ w.picks
    → StillPasses p fuel v before rest clock next
passes_outer p fuel v picks before outer rest w clock pick next h o e b =
    let inner =
    subst (λ hs. PassesLast p fuel (with_attempts v h.0) picks hs clock pick)
    (last_is_first outer rest w o) h.1 in
    let out =
    last_goes_out p fuel (with_attempts v h.0) picks (held w) (inwards rest []) clock pick inner
    in (
      out.0,
      subst (λ ps. PassesLast p fuel (with_attempts v out.0) ps (inwards rest []) clock next)
          (sym b) (subst
          (λ x. PassesLast p fuel (with_attempts v out.0) w.picks (inwards rest []) clock x)
          (sym e) out.1),
    )

pub ends_passed : (p : Program) (c : Course) (pick : Pick) (r : Ran) (outer : List Waiting)
    → IsEnded c (OutOfFuel pick) r
    → StillPasses p c.fuel (levels_of c.layers) c.picks outer c.clock pick → outer ≡ []
    → IsRun p c.fuel r
ends_passed p c pick r outer e h o =
    ran_by p c (OutOfFuel pick) r e
    (run_passes p c.fuel (with_attempts (levels_of c.layers) h.0) c.picks c.clock pick
    (subst (λ hs. PassesLast p c.fuel (with_attempts (levels_of c.layers) h.0) c.picks hs c.clock
    pick) (ap (λ os. inwards os []) o) h.1))

-- ---- the root's picks

-- where no machine waits they are those of the innermost one
pub root_ended : (c k : Course) (outer : List Waiting) (ending : Ending) (r : Ran)
    → IsEnded c ending r → outer ≡ [] → picks_from outer c.picks ≡ root_picks k
    → r.journal.picks ≡ root_picks k
root_ended c k outer ending r e o same =
    e.are_picks ∙ sym (ap (λ os. picks_from os c.picks) o) ∙ same

out_of : (rest : List Waiting) (w : Waiting) (picks : List Pick)
    → picks_from rest w.picks ≡ picks_from (rest ++ w ∷ []) picks
out_of [] w picks = refl
out_of (r ∷ rest) w picks = refl

-- out of an attempt they stay
pub root_out : (outer rest : List Waiting) (w : Waiting) (picks before root : List Pick)
    → picks_from outer picks ≡ root → outer ≡ rest ++ w ∷ [] → before ≡ w.picks
    → picks_from rest before ≡ root
root_out outer rest w picks before root same o b =
    ap (picks_from rest) b ∙ out_of rest w picks ∙ sym (ap (λ os. picks_from os picks) o) ∙ same
