-- A run goes on from a course.
use mathlib.Core.List.{IsPrefix}
use Rattle.std.proofs.Common.{◌≡◌, ℕ, true, false, List, [], ◌∷◌, ◌++◌, refl, ap, sym, ◌∙◌, subst, append-nil, append_assoc}
use Rattle.fort_core.specs.declared.pick.Pick.{Pick, Step, Attempt}
use Rattle.fort_core.specs.declared.program.Program.{Program}
use Rattle.fort_core.specs.declared.term.Term.{Term}
use Rattle.fort_machine.specs.Effects.{Effect, both}
use Rattle.fort_machine.specs.Attempts.{Ended, goes}
use Rattle.fort_machine.specs.Journals.{opening_store}
use Rattle.fort_machine.specs.Runs.{Runs, location}
use Rattle.fort_frames.specs.Frames.{frames, rebuilt}
use Rattle.fort_frames.specs.declared.place.Place.{Place}
use Rattle.fort_store_effects.specs.Levels.{Levels, levels_of}
use Rattle.fort_walk_law_course.specs.Course.{Held, AllWait, base_of}
use Rattle.fort_hall_law_books.proofs.Books.{output_grows}
use Rattle.fort_walk_course.specs.declared.course.Course.{Course}
use Rattle.fort_walk_course.specs.declared.course.Waiting.{Waiting}
use Rattle.fort_walk_course.specs.declared.ending.Ran.{Ran}
use Rattle.fort_walk_course.specs.Calls.{IsRun, Undoes}
use Rattle.fort_walk_course.specs.Courses.{HasCome, StandsAt, around, held, inwards}
use Rattle.fort_walk_course.specs.Picked.{PicksAttempt, PicksStep, picks_from, root_picks}
use Rattle.fort_walk_turns.specs.declared.next.Next.{Next}
use Rattle.fort_walk_turns.specs.declared.next.Next.TheVariants as next
use Rattle.fort_walk_turns.specs.declared.walked.Walked.{Walked}
use Rattle.fort_walk_turns.specs.declared.walked.Walked.TheVariants as walked
use Rattle.fort_walk_turns.specs.Grows.{GrowsFrom, EndsFrom, Concludes, Onward}
use Rattle.fort_walk_turns.proofs.Giving.{stands_come}

-- ---- lists

starts_same : {A : Type 0} (xs : List A) → IsPrefix xs xs
starts_same xs = ([], append-nil xs)

starts_on : {A : Type 0} (xs ys zs : List A) → IsPrefix xs ys → IsPrefix ys zs → IsPrefix xs zs
starts_on xs ys zs h k = (
  h.0 ++ k.0,
  sym (append_assoc xs h.0 k.0) ∙ ap (λ l. l ++ k.0) h.1 ∙ k.1,
)

-- ---- the root's run

-- the root's picks, by the machines round the innermost one
abbrev held_picks : List Held → List Pick → List Pick
held_picks [] picks = picks
held_picks (h ∷ hs) picks = held_picks hs h.picks

same_picks : (os : List Waiting) (hs : List Held) (picks : List Pick)
    → held_picks (inwards os hs) picks ≡ held_picks hs (picks_from os picks)
same_picks [] hs picks = refl
same_picks (o ∷ os) hs picks = same_picks os (held o ∷ hs) picks

-- a run of the root's machine so far
record RootRuns (p : Program) (picks : List Pick) (output : List ℕ) : Type 0 where
  ended : Ended
  effect : Effect
  runs : Runs p false true (opening_store p) picks p.first ended effect
  is_output : output ≡ effect.output

abbrev RootEnds : Program → Effect → List Pick → Type 0
RootEnds p d picks = (r : Ended) × Runs p false true (opening_store p) picks p.first r d

root_ends : (p : Program) (now : ℕ) (d : Effect) (ws : List Held) (es : List Effect)
    (picks : List Pick) (r : Ended) → AllWait p now d ws es
    → Runs p (base_of p d ws es).inner true (base_of p d ws es).store picks
    (base_of p d ws es).first r (base_of p d ws es).done
    → RootEnds p d (held_picks ws picks)
root_ends p now d [] es picks r wait k = (r, k)
root_ends p now d (w ∷ ws) [] picks r wait k = absurd wait
root_ends p now d (w ∷ ws) (e ∷ es) picks r wait k =
    root_ends p w.clock d ws es w.picks
    (goes (rebuilt w.clock (frames w.place.stack) wait.0.form)) wait.2 wait.0.stage.runs

come_runs : (p : Program) (c : Course) (r : Ended) → HasCome p c r
    → RootRuns p (root_picks c) (levels_of c.layers).output
come_runs p c r h =
    let k = h.comes in
    let x = root_ends p c.clock k.root (around c) k.attempts c.picks r k.waiting k.runs in
    record {
      ended = x.0;
      effect = k.root;
      runs =
          subst (λ ps. Runs p false true (opening_store p) ps p.first x.0 k.root)
          (same_picks c.outer [] c.picks) x.1;
      is_output = ap (λ (v : Levels). v.output) k.levels;
    }

ran_runs : (p : Program) (fuel : ℕ) (x : Ran) → IsRun p fuel x
    → RootRuns p x.journal.picks x.output
ran_runs p fuel x h = record {
  ended = goes h.run.term;
  effect = h.run.effect;
  runs = h.run.records.is_run.runs;
  is_output = h.run.is_output;
}

-- picks behind others print behind them
prints_behind : (p : Program) (picks more : List Pick) (one two : List ℕ) → RootRuns p picks one
    → RootRuns p (picks ++ more) two → IsPrefix one two
prints_behind p picks more one two h k =
    let grown =
    output_grows p false (opening_store p) p.first picks more h.ended k.ended h.effect k.effect
    h.runs k.runs in (
      grown.0.output,
      ap (λ out. out ++ grown.0.output) h.is_output
          ∙ sym (ap (λ (d : Effect). d.output) grown.1) ∙ sym k.is_output,
    )

prints_on : (p : Program) (one two : List Pick) (out new : List ℕ) → RootRuns p one out
    → RootRuns p two new → IsPrefix one two → IsPrefix out new
prints_on p one two out new h k more =
    prints_behind p one more.0 out new h (subst (λ ps. RootRuns p ps new) (sym more.1) k)

-- ---- by picks

grown : (p : Program) (old new : Course) (r q : Ended) → HasCome p old r → HasCome p new q
    → IsPrefix (root_picks old) (root_picks new) → GrowsFrom old new
grown p old new r q h k more = record {
  picks = more;
  output =
      prints_on p (root_picks old) (root_picks new) (levels_of old.layers).output
      (levels_of new.layers).output (come_runs p old r h) (come_runs p new q k) more;
}

pub ends_grown : (p : Program) (c : Course) (fuel : ℕ) (r : Ended) (x : Ran) → HasCome p c r
    → IsRun p fuel x → x.journal.picks ≡ root_picks c → EndsFrom c x
ends_grown p c fuel r x h k same =
    let more : IsPrefix (root_picks c) x.journal.picks = ([], append-nil (root_picks c) ∙ sym same)
    in
    record {
      picks = more;
      output =
          prints_on p (root_picks c) x.journal.picks (levels_of c.layers).output x.output
          (come_runs p c r h) (ran_runs p fuel x k) more;
    }

standing : (p : Program) (c : Course) (place : Place) (a : Term) → StandsAt p c place a
    → HasCome p c (goes (rebuilt c.clock (frames place.stack) a))
standing p c place a s =
    stands_come p c place a (rebuilt c.clock (frames place.stack) a) s refl

pub ends_stood : (p : Program) (c : Course) (fuel : ℕ) (place : Place) (a : Term) (x : Ran)
    → StandsAt p c place a → IsRun p fuel x → x.journal.picks ≡ root_picks c → EndsFrom c x
ends_stood p c fuel place a x s k same =
    ends_grown p c fuel (goes (rebuilt c.clock (frames place.stack) a)) x (standing p c place a s)
    k same

-- picks more of the innermost machine
picks_more : (outer : List Waiting) (picks more : List Pick)
    → IsPrefix (picks_from outer picks) (picks_from outer (picks ++ more))
picks_more [] picks more = (more, refl)
picks_more (w ∷ ws) picks more = starts_same w.picks

out_of : (rest : List Waiting) (w : Waiting) (picks : List Pick)
    → picks_from rest w.picks ≡ picks_from (rest ++ w ∷ []) picks
out_of [] w picks = refl
out_of (r ∷ rest) w picks = refl

-- the same, or more of a machine, among those that wait round it
same_root : (old new : Course) → root_picks new ≡ root_picks old
    → IsPrefix (root_picks old) (root_picks new)
same_root old new e = ([], append-nil (root_picks old) ∙ sym e)

more_root : (old new : Course) (outer : List Waiting) (picks more : List Pick)
    → root_picks old ≡ picks_from outer picks → new.outer ≡ outer → new.picks ≡ picks ++ more
    → IsPrefix (root_picks old) (root_picks new)
more_root old new outer picks more e o n =
    let now : root_picks new ≡ picks_from outer (picks ++ more) =
    ap (λ os. picks_from os new.picks) o ∙ ap (picks_from outer) n in
    subst (λ ps. IsPrefix ps (root_picks new)) (sym e)
    (subst (IsPrefix (picks_from outer picks)) (sym now) (picks_more outer picks more))

-- by more picks of the innermost machine
pub more_grows : (p : Program) (old new : Course) (place to : Place) (a b : Term)
    (more : List Pick) → StandsAt p old place a → StandsAt p new to b
    → new.picks ≡ old.picks ++ more → new.outer ≡ old.outer → GrowsFrom old new
more_grows p old new place to a b more s k e o =
    grown p old new _ _ (standing p old place a s) (standing p new to b k)
    (more_root old new old.outer old.picks more refl o e)

-- as an attempt begins
pub begun_grows : (p : Program) (old new : Course) (place to : Place) (a b : Term) (w : Waiting)
    → StandsAt p old place a → StandsAt p new to b → new.outer ≡ old.outer ++ w ∷ []
    → w.picks ≡ old.picks → GrowsFrom old new
begun_grows p old new place to a b w s k o e =
    grown p old new _ _ (standing p old place a s) (standing p new to b k)
    (same_root old new
    (ap (λ os. picks_from os new.picks) o ∙ sym (out_of old.outer w new.picks)
    ∙ ap (picks_from old.outer) e))

-- as it is left
pub undone_grows : (p : Program) (old new : Course) (to : Place) (b : Term) (r : Ended)
    (w : Waiting) → HasCome p old r → StandsAt p new to b → Undoes old new w → GrowsFrom old new
undone_grows p old new to b r w h k u =
    grown p old new r _ h (standing p new to b k)
    (same_root old new
    (ap (picks_from new.outer) u.picks ∙ out_of new.outer w old.picks
    ∙ sym (ap (λ os. picks_from os old.picks) u.outer)))

-- as it ends
pub closed_grows : (p : Program) (old new : Course) (to : Place) (b : Term) (r : Ended)
    (within : List Pick) → HasCome p old r → StandsAt p new to b → PicksAttempt old within new
    → GrowsFrom old new
closed_grows p old new to b r within h k c =
    grown p old new r _ h (standing p new to b k)
    (more_root old new new.outer c.waiting.picks (Attempt c.waiting.place.path within ∷ [])
    (ap (λ os. picks_from os old.picks) c.outer ∙ sym (out_of new.outer c.waiting old.picks)) refl
    c.picks)

-- ---- one after another

pub grows_same : (c : Course) → GrowsFrom c c
grows_same c = record {
  picks = starts_same (root_picks c);
  output = starts_same (levels_of c.layers).output;
}

pub grows_on : (one two three : Course) → GrowsFrom one two → GrowsFrom two three
    → GrowsFrom one three
grows_on one two three h k = record {
  picks = starts_on (root_picks one) (root_picks two) (root_picks three) h.picks k.picks;
  output =
      starts_on (levels_of one.layers).output (levels_of two.layers).output
      (levels_of three.layers).output h.output k.output;
}

concludes_by : (one two : Course) (x : Walked) → GrowsFrom one two → Concludes two x
    → Concludes one x
concludes_by one two (walked.Ran r) h k = record {
  picks = starts_on (root_picks one) (root_picks two) r.journal.picks h.picks k.picks;
  output =
      starts_on (levels_of one.layers).output (levels_of two.layers).output r.output h.output
      k.output;
}
concludes_by one two walked.Stuck h k = tt

pub onward_by : (one two : Course) (x : Next) → GrowsFrom one two → Onward two x → Onward one x
onward_by one two (next.Goes w) h k = grows_on one two w.going.course h k
onward_by one two (next.Ends x) h k = concludes_by one two x h k

-- a step, and then on
pub step_on : (p : Program) (old new : Course) (place : Place) (a b : Term) (loc : ℕ) (x : Next)
    → StandsAt p old place a → StandsAt p new place b → PicksStep old place loc new → Onward new x
    → Onward old x
step_on p old new place a b loc x s k step h =
    onward_by old new x
    (more_grows p old new place place a b (Step place.path (location loc) ∷ []) s k step.picks
    step.outer) h
