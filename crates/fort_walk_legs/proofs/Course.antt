-- A leg is picks of a run.
use Rattle.std.proofs.Common.{◌≡◌, ◌≢◌, ℕ, ◌≤◌, true, List, [], ◌∷◌, ◌++◌, map, refl, ap, sym, ◌∙◌, subst, le_of_lt}
use Rattle.fort_core.specs.declared.pick.Pick.{Pick}
use Rattle.fort_core.specs.declared.program.Program.{Program}
use Rattle.fort_core.specs.declared.term.Term.{Term}
use Rattle.fort_machine.specs.Effects.{Effect, both, afterwards}
use Rattle.fort_machine.specs.Frames.{Frame, plug, road, trodden}
use Rattle.fort_machine.specs.Attempts.{Ended, goes}
use Rattle.fort_machine.specs.Journals.{MakesWithinBounds}
use Rattle.fort_machine.specs.Proper.{by_run}
use Rattle.fort_machine.specs.Runs.{Runs}
use Rattle.fort_machine.specs.Threads.{under, round_after}
use Rattle.fort_machine.proofs.Runs.{append, runs_fit}
use Rattle.fort_frames.specs.Frames.{frames, outward, rebuilt}
use Rattle.fort_frames.specs.declared.place.Place.{Place}
use Rattle.fort_frames.proofs.Same.{same_term, not_passed, same_thread, clock_marks}
use Rattle.fort_store_effects.specs.Levels.{Levels, seen, spent, added}
use Rattle.fort_walk_law_course.specs.Course.{Held, base_of, AllWait, Comes, is_inner}
use Rattle.fort_walk_law_course.proofs.Bounds.{both_bounded}
use Rattle.fort_walk_law_course.proofs.Keeps.{root_more}
use Rattle.fort_walk_law_course.proofs.Reaches.{reached_here}
use Rattle.fort_walk_law_course.proofs.Store.{levels_by, store_by, seen_base, inner_is, wait_on}
use Rattle.fort_walk_legs.specs.Laws.{LegKeeps, CourseIsInReach}
use Rattle.fort_walk_legs.proofs.Legs.{leg_lifts}

-- picks more of the innermost machine, whose run they go on
pub more_picks : (p : Program) (fuel : ℕ) (root : Effect) (es : List Effect) (w : Levels)
    (picks more : List Pick) (ws : List Held) (now later : ℕ) (u : Term) (r : Ended) (e : Effect)
    → AllWait p now root ws es → MakesWithinBounds root
    → let b = base_of p root ws es in Runs p b.inner true b.store picks b.first (goes u) b.done
    → Runs p b.inner true (afterwards b.done b.store) more u r e
    → w ≡ added e (levels_by p root es) → now ≤ later → spent w ≤ fuel → MakesWithinBounds e
    → Comes p fuel w (picks ++ more) ws later r
more_picks p fuel root [] w picks more [] now later u r e k m runs next is l cost n = record {
  root = both root e;
  attempts = [];
  levels = is ∙ root_more p root e (runs_fit _ _ _ _ _ runs) (runs_fit _ _ _ _ _ next);
  waiting = tt;
  bounded = both_bounded root e m n;
  runs = append _ picks _ _ root runs u refl more r e next;
  within_fuel = cost;
}
more_picks p fuel root (d ∷ ds) w picks more [] now later u r e k m runs next is l cost n = absurd k
more_picks p fuel root [] w picks more (h ∷ ws) now later u r e k m runs next is l cost n = absurd k
more_picks p fuel root (d ∷ ds) w picks more (h ∷ ws) now later u r e k m runs next is l cost n =
    record {
      root = root;
      attempts = both d e ∷ ds;
      levels = is;
      waiting =
          let rest = wait_on p now later root (h ∷ ws) (d ∷ ds) l k
          in (rest.0, both_bounded d e k.1 n, rest.2);
      bounded = m;
      runs = append _ picks _ _ d runs u refl more r e next;
      within_fuel = cost;
    }

-- the same, by the store that the levels show
pub picks_seen : (p : Program) (fuel : ℕ) (v w : Levels) (picks more : List Pick) (ws : List Held)
    (now later : ℕ) (u : Term) (r : Ended) (e : Effect)
    → Comes p fuel v picks ws now (goes u) → Runs p (is_inner ws) true (seen v) more u r e
    → w ≡ added e v → now ≤ later → spent w ≤ fuel → MakesWithinBounds e
    → Comes p fuel w (picks ++ more) ws later r
picks_seen p fuel v w picks more ws now later u r e c next is l cost n =
    let store : seen v ≡ store_by p c.root ws c.attempts =
    ap seen c.levels ∙ seen_base p now c.root ws c.attempts c.waiting in
    let inner : is_inner ws ≡ (base_of p c.root ws c.attempts).inner =
    sym (inner_is p now c.root ws c.attempts c.waiting) in
    more_picks p fuel c.root c.attempts w picks more ws now later u r e c.waiting c.bounded c.runs
    (subst (λ i. Runs p i true (store_by p c.root ws c.attempts) more u r e) inner
    (subst (λ s. Runs p (is_inner ws) true s more u r e) store next))
    (is ∙ ap (added e) c.levels) l cost n

-- after some steps each part on the way has its mark
round_some : (picks : List Pick) (fs : List Frame) → picks ≢ [] → round_after picks fs ≡ trodden fs
round_some [] fs n = absurd (n refl)
round_some (pick ∷ picks) fs n = refl

path_is : (clock : ℕ) (place : Place) → road (outward clock (frames place.stack)) ≡ place.path.0
path_is clock place =
    sym (place.is_path ∙ same_thread clock (frames place.stack))

pub leg_keeps : LegKeeps
leg_keeps p fuel v w picks more ws clock later fresh fresher place a b e c m leg some adds rises cost
    bounded nothing =
    let fs = outward clock (frames place.stack) in
    let marks = clock_marks clock later (frames place.stack) a b c.reached rises in
    let lifted = leg_lifts p (is_inner ws) fs (seen v) a b more e
    (not_passed clock (frames place.stack) a c.reached) m leg in
    let next : Runs p (is_inner ws) true (seen v) (map (under place.path.0) more)
    (rebuilt clock (frames place.stack) a) (goes (rebuilt later (frames place.stack) b)) e =
    subst (λ x. Runs p (is_inner ws) true (seen v) (map (under place.path.0) more) x
    (goes (rebuilt later (frames place.stack) b)) e) (sym (same_term clock (frames place.stack) a))
    (subst (λ x. Runs p (is_inner ws) true (seen v) (map (under place.path.0) more) (plug fs a)
    (goes x) e)
    (ap (λ x. plug x b) (round_some more fs some ∙ sym marks.0)
    ∙ sym (same_term later (frames place.stack) b))
    (subst (λ x. Runs p (is_inner ws) true (seen v) (map (under x) more) (plug fs a)
    (goes (plug (round_after more fs) b)) e) (path_is clock place) lifted.runs)) in
    record {
      comes = picks_seen p fuel v w picks (map (under place.path.0) more) ws clock later _ _ e c.comes
          next adds.is_new (le_of_lt rises) cost bounded;
      reached = marks.1;
      nothing = nothing;
    }

pub course_is_in_reach : CourseIsInReach
course_is_in_reach p fuel v picks ws clock fresh place a one c m more b e leg =
    let fs = outward clock (frames place.stack) in
    let lifted = leg_lifts p (is_inner ws) fs (seen v) a b more e
    (not_passed clock (frames place.stack) a c.reached) m leg in
    let reached = by_run (reached_here p fuel v picks ws clock (plug fs a)
    (subst (λ x. Comes p fuel v picks ws clock (goes x)) (same_term clock (frames place.stack) a)
    c.comes)) lifted.runs refl in
    record {
      frames = round_after more fs;
      reached = reached;
      one = one (is_inner ws) (afterwards e (seen v)) (plug (round_after more fs) b) reached;
    }
