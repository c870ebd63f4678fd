-- What keeps the course of a run.
use Rattle.std.proofs.Common.{◌≡◌, ℕ, ◌+◌, ◌<◌, ◌≤◌, true, List, [], ◌∷◌, ◌++◌, Some, refl, arith, ap, sym, ◌∙◌, subst, le_of_lt, le_refl}
use Rattle.std.specs.Prelude.{IfSome}
use Rattle.fort_core.specs.declared.pick.Pick.{Pick, Step, Attempt}
use Rattle.fort_core.specs.declared.program.Program.{Program}
use Rattle.fort_core.specs.declared.term.Term.{Term, Asleep}
use Rattle.fort_core.specs.declared.term.Term as term
use Rattle.fort_machine.specs.Effects.{Effect, idle, both, paid, FitsAll, afterwards}
use Rattle.fort_machine.specs.Ends.{throw_of}
use Rattle.fort_machine.specs.Marked.{Bare}
use Rattle.fort_machine.specs.Attempts.{Ended, Form, goes, aborts, Closes, completed, failed, gave_up, fell_asleep}
use Rattle.fort_machine.specs.Runs.{Runs, none, location}
use Rattle.fort_machine.specs.Journals.{opening_store, MakesWithinBounds}
use Rattle.fort_machine.proofs.Runs.{append, runs_fit}
use Rattle.fort_machine.proofs.WholeEffects.{idle_both, afterwards_both}
use Rattle.fort_frames.specs.Frames.{frames, rebuilt, Reaches}
use Rattle.fort_frames.proofs.Same.{clock_marks}
use Rattle.fort_store_effects.specs.Calls.{AreMarks}
use Rattle.fort_store_effects.specs.Closes as layers
use Rattle.fort_store_effects.specs.declared.cell.Closing.{Closing}
use Rattle.fort_store_effects.specs.declared.cell.Closing.TheVariants as closing
use Rattle.fort_store_effects.specs.Levels as levels
use Rattle.fort_store_effects.specs.Levels.{Levels, seen, spent, added, undone, attempts_cost}
use Rattle.fort_walk_law_course.specs.Picks.{Stage, MayBeTried}
use Rattle.fort_walk_law_course.proofs.Picks.{step_is_next, attempt_is_pick, inner_abort_ends}
use Rattle.fort_walk_law_course.specs.Course.{Held, base_of, AllWait, Comes, IsCourse, NothingFrom, is_inner}
use Rattle.fort_walk_law_course.specs.Laws.{Begins, MovesKeep, StepKeeps, OpeningKeeps, LeavingKeeps, AbortKeeps, CompletionKeeps, FailureKeeps, GivingUpKeeps, FallingAsleepKeeps}
use Rattle.fort_walk_law_course.proofs.Bounds.{both_bounded, closing_bounded, none_closed, spent_added, closing_cost}
use Rattle.fort_walk_law_course.proofs.Store.{levels_by, store_by, seen_base, inner_is, wait_on, seen_added}

-- the levels after something was done by the root's run
pub root_more : (p : Program) (root e : Effect) → FitsAll root (opening_store p)
    → FitsAll e (afterwards root (opening_store p))
    → added e (levels_by p root []) ≡ levels_by p (both root e) []
root_more p root e f g =
    λ i. record {
      store = sym (afterwards_both root e (opening_store p) f g) i;
      output = (both root e).output;
      cost = (both root e).cost;
      attempts = [];
    }

-- one pick more of the innermost machine, whose run it goes on
pub one_more : (p : Program) (fuel : ℕ) (root : Effect) (es : List Effect) (w : Levels)
    (picks : List Pick) (ws : List Held) (now later : ℕ) (u : Term) (r : Ended) (pick : Pick)
    (e : Effect)
    → AllWait p now root ws es → MakesWithinBounds root
    → let b = base_of p root ws es in Runs p b.inner true b.store picks b.first (goes u) b.done
    → Runs p b.inner true (afterwards b.done b.store) (pick ∷ []) u r e
    → w ≡ added e (levels_by p root es) → now ≤ later → spent w ≤ fuel → MakesWithinBounds e
    → Comes p fuel w (picks ++ pick ∷ []) ws later r
one_more p fuel root [] w picks [] now later u r pick e k m runs more is l cost n = record {
  root = both root e;
  attempts = [];
  levels = is ∙ root_more p root e (runs_fit _ _ _ _ _ runs) (runs_fit _ _ _ _ _ more);
  waiting = tt;
  bounded = both_bounded root e m n;
  runs = append _ picks _ _ root runs u refl (pick ∷ []) r e more;
  within_fuel = cost;
}
one_more p fuel root (d ∷ ds) w picks [] now later u r pick e k m runs more is l cost n = absurd k
one_more p fuel root [] w picks (h ∷ ws) now later u r pick e k m runs more is l cost n = absurd k
one_more p fuel root (d ∷ ds) w picks (h ∷ ws) now later u r pick e k m runs more is l cost n =
    record {
      root = root;
      attempts = both d e ∷ ds;
      levels = is;
      waiting =
          let rest = wait_on p now later root (h ∷ ws) (d ∷ ds) l k
          in (rest.0, both_bounded d e k.1 n, rest.2);
      bounded = m;
      runs = append _ picks _ _ d runs u refl (pick ∷ []) r e more;
      within_fuel = cost;
    }

-- the same, by the store that the levels show
pub more_seen : (p : Program) (fuel : ℕ) (v w : Levels) (picks : List Pick) (ws : List Held)
    (now later : ℕ) (u : Term) (r : Ended) (pick : Pick) (e : Effect)
    → Comes p fuel v picks ws now (goes u)
    → Runs p (is_inner ws) true (seen v) (pick ∷ []) u r e → w ≡ added e v → now ≤ later
    → spent w ≤ fuel → MakesWithinBounds e → Comes p fuel w (picks ++ pick ∷ []) ws later r
more_seen p fuel v w picks ws now later u r pick e c more is l cost n =
    let store : seen v ≡ store_by p c.root ws c.attempts =
    ap seen c.levels ∙ seen_base p now c.root ws c.attempts c.waiting in
    let inner : is_inner ws ≡ (base_of p c.root ws c.attempts).inner =
    sym (inner_is p now c.root ws c.attempts c.waiting) in
    one_more p fuel c.root c.attempts w picks ws now later u r pick e c.waiting c.bounded c.runs
    (subst (λ i. Runs p i true (store_by p c.root ws c.attempts) (pick ∷ []) u r e) inner
    (subst (λ s. Runs p (is_inner ws) true s (pick ∷ []) u r e) store more))
    (is ∙ ap (added e) c.levels) l cost n

pub begins : Begins
begins p fuel clock fresh place at nothing = record {
  comes = record {
    root = idle;
    attempts = [];
    levels = refl;
    waiting = tt;
    bounded = λ l v h. let q = h in cc;
    runs = none refl (ap (λ fs. goes (rebuilt clock fs p.first)) at) refl;
    within_fuel = omega arith;
  };
  reached = subst (λ fs. Reaches clock fs p.first) (sym at) tt;
  nothing = nothing;
}

pub moves_keep : MovesKeep
moves_keep p fuel v picks ws clock fresh old new a b c is reached = record {
  comes = subst (λ t. Comes p fuel v picks ws clock (goes t)) (sym is) c.comes;
  reached = reached;
  nothing = c.nothing;
}

pub step_keeps : StepKeeps
step_keeps p fuel v w picks ws clock later fresh fresher loc place a b e c local adds rises cost
    bounded nothing = record {
      comes = more_seen p fuel v w picks ws clock later _ _ (Step place.path (location loc)) e c.comes
          (step_is_next p (is_inner ws) (seen v) e clock later loc place a b c.reached rises local
          adds.fits) adds.is_new (le_of_lt rises) cost bounded;
      reached = (clock_marks clock later (frames place.stack) a b c.reached rises).1;
      nothing = nothing;
    }

pub opening_keeps : OpeningKeeps
opening_keeps p fuel v picks ws clock fresh place root m a body kept c form bare may known cost at =
    let k = c.comes in
    let store : seen v ≡ store_by p k.root ws k.attempts =
    ap seen k.levels ∙ seen_base p clock k.root ws k.attempts k.waiting in
    record {
      comes = record {
        root = k.root;
        attempts = idle ∷ k.attempts;
        levels = ap levels.opened k.levels;
        waiting = (
          record {
            form = a;
            is_kept = known;
            not_later = le_refl clock;
            stage = record { runs = k.runs; reached = c.reached };
            nothing = subst (NothingFrom fresh) store c.nothing;
            is_form = form;
            bare = bare;
            may = subst (λ s. MayBeTried s (rebuilt clock (frames place.stack) a) a) store may;
          },
          (λ l x h. let q = h in cc),
          k.waiting,
        );
        bounded = k.bounded;
        runs = none refl (ap (λ fs. goes (rebuilt clock fs body)) at) refl;
        within_fuel = omega (arith, cost);
      };
      reached = subst (λ fs. Reaches clock fs body) (sym at) tt;
      nothing = c.nothing;
    }

-- an attempt is undone, in levels that are taken apart
left_by : (p : Program) (fuel : ℕ) (v : Levels) (root : Effect) (es : List Effect) (h : Held)
    (ws : List Held) (now : ℕ) (a : Term) → v ≡ levels_by p root es
    → AllWait p now root (h ∷ ws) es → MakesWithinBounds root → spent v ≤ fuel → h.form ≡ Some a
    → IsCourse p fuel (undone v) h.picks ws h.clock h.fresh h.place a × Form a h.mode h.body
    × Bare h.body × MayBeTried (seen (undone v)) (rebuilt h.clock (frames h.place.stack) a) a
left_by p fuel v root [] h ws now a is k m cost some = absurd k
left_by p fuel v root (d ∷ ds) h ws now a is k m cost some =
    let waits = k.0 in
    let before : undone v ≡ levels_by p root ds = ap undone is in
    let store : seen (undone v) ≡ store_by p root ws ds =
    ap seen before ∙ seen_base p h.clock root ws ds k.2 in
    let whole : spent v ≡ root.cost + (1 + d.cost + attempts_cost ds) = ap spent is in
    let part : spent (undone v) ≡ root.cost + attempts_cost ds = ap spent before in
    let same : a ≡ waits.form = subst (λ o. IfSome o (λ b. b ≡ waits.form)) some waits.is_kept in
    subst
    (λ b. IsCourse p fuel (undone v) h.picks ws h.clock h.fresh h.place b × Form b h.mode h.body
    × Bare h.body × MayBeTried (seen (undone v)) (rebuilt h.clock (frames h.place.stack) b) b)
    (sym same) (
      record {
        comes = record {
          root = root;
          attempts = ds;
          levels = before;
          waiting = k.2;
          bounded = m;
          runs = waits.stage.runs;
          within_fuel = omega (arith, whole, part, cost);
        };
        reached = waits.stage.reached;
        nothing = subst (NothingFrom h.fresh) (sym store) waits.nothing;
      },
      waits.is_form,
      waits.bare,
      subst
          (λ s. MayBeTried s (rebuilt h.clock (frames h.place.stack) waits.form) waits.form)
          (sym store) waits.may,
    )

pub leaving_keeps : LeavingKeeps
leaving_keeps p fuel v picks h ws now r a c some =
    left_by p fuel v c.root c.attempts h ws now a c.levels c.waiting c.bounded c.within_fuel some

-- what was done at no location leaves the store
same_store : (v : Levels) (p : Program) (fuel : ℕ) (picks : List Pick) (ws : List Held)
    (now cost : ℕ) (r : Ended) → Comes p fuel v picks ws now r → seen (added (paid cost) v) ≡ seen v
same_store v p fuel picks ws now cost r c =
    let runs = c.runs in
    ap (λ x. seen (added (paid cost) x)) c.levels
    ∙ seen_added p now c.root ws c.attempts (paid cost) c.waiting (runs_fit _ _ _ _ _ runs)
    (λ l. tt)
    ∙ sym (seen_base p now c.root ws c.attempts c.waiting)
    ∙ sym (ap seen c.levels)

pub abort_keeps : AbortKeeps
abort_keeps p fuel v w picks h ws clock fresh place a c acts adds cost =
    let at = rebuilt clock (frames place.stack) a in
    let stage : Stage p true (seen v) [] at idle clock place a =
    record { runs = none refl refl refl; reached = c.reached } in
    let stops : Runs p true true (seen v) (Step place.path (location 0) ∷ []) at aborts (paid 1) =
    subst (λ d. Runs p true true (seen v) (Step place.path (location 0) ∷ []) at aborts d)
    (idle_both (paid 1)) (inner_abort_ends p (seen v) [] at idle clock place a stage acts) in (
      more_seen p fuel v w picks (h ∷ ws) clock clock at aborts (Step place.path (location 0))
          (paid 1) c.comes stops adds.is_new (le_refl clock) cost (λ l x e. let q = e in cc),
      subst (λ s. NothingFrom fresh s)
          (sym (ap seen adds.is_new ∙ same_store v p fuel picks (h ∷ ws) clock 1 (goes at) c.comes))
          c.nothing,
    )

-- an attempt ended, in levels that are taken apart
closed_by : (p : Program) (fuel : ℕ) (root d : Effect) (ds : List Effect) (w : Levels)
    (picks : List Pick) (h : Held) (ws : List Held) (now later fresh : ℕ) (r : Ended) (b : Term)
    (c : Closing)
    → AllWait p now root (h ∷ ws) (d ∷ ds) → MakesWithinBounds root
    → Runs p true true (store_by p root ws ds) picks h.body r d
    → spent (levels_by p root (d ∷ ds)) ≤ fuel
    → NothingFrom fresh (seen (levels_by p root (d ∷ ds)))
    → w ≡ added (levels.closing c d) (levels_by p root ds)
    → Closes p h.mode h.body r d b (levels.closing c d) → now < later
    → IsCourse p fuel w (h.picks ++ Attempt h.place.path picks ∷ []) ws later fresh h.place b
closed_by p fuel root d ds w picks h ws now later fresh r b c k m runs cost nothing is close rises =
    let waits = k.0 in
    let base = base_of p root ws ds in
    let store = store_by p root ws ds in
    let e = levels.closing c d in
    let at = rebuilt h.clock (frames h.place.stack) waits.form in
    let before : h.clock < later = omega (arith, waits.not_later, rises) in
    let one : Stage p base.inner store ([] ++ Attempt h.place.path picks ∷ []) at (both idle e)
    later h.place b =
    attempt_is_pick p base.inner h.mode store [] picks at h.body r idle d e h.clock later
    h.place waits.form b
    (record { runs = none refl refl refl; reached = waits.stage.reached }) before waits.is_form
    waits.bare waits.may runs close in
    let more : Runs p base.inner true store (Attempt h.place.path picks ∷ []) at
    (goes (rebuilt later (frames h.place.stack) b)) e =
    subst (λ x. Runs p base.inner true store (Attempt h.place.path picks ∷ []) at
    (goes (rebuilt later (frames h.place.stack) b)) x) (idle_both e) one.runs in
    let outer = waits.stage.runs in
    let sum : spent w ≡ root.cost + attempts_cost ds + e.cost =
    ap spent is ∙ spent_added e (levels_by p root ds) ds in
    let price : e.cost ≡ 1 + d.cost = closing_cost c d in
    let fits : FitsAll d store = runs_fit _ _ _ _ _ runs in
    let before_it : seen (levels_by p root ds) ≡ store = seen_base p h.clock root ws ds k.2 in
    let left : seen w ≡ afterwards e store =
    ap seen is
    ∙ seen_added p h.clock root ws ds e k.2 (runs_fit _ _ _ _ _ outer) (runs_fit _ _ _ _ _ more) in
    record {
      comes = one_more p fuel root ds w h.picks ws h.clock later at
          (goes (rebuilt later (frames h.place.stack) b)) (Attempt h.place.path picks) e
          k.2 m outer more is (le_of_lt before) (omega (arith, sum, price, cost))
          (closing_bounded c d k.1);
      reached = one.reached;
      nothing =
          subst (λ s. NothingFrom fresh s) (sym left)
          (λ l n. none_closed c d l (store l) (fits l) (ap (λ s. afterwards d s l) (sym before_it)
          ∙ nothing l n));
    }

closed_in : (p : Program) (fuel : ℕ) (root : Effect) (es : List Effect) (w : Levels)
    (picks : List Pick) (h : Held) (ws : List Held) (now later fresh : ℕ) (r : Ended) (b : Term)
    (c : Closing)
    → AllWait p now root (h ∷ ws) es → MakesWithinBounds root
    → (let base = base_of p root (h ∷ ws) es
    in Runs p base.inner true base.store picks base.first r base.done)
    → spent (levels_by p root es) ≤ fuel
    → NothingFrom fresh (seen (levels_by p root es)) → layers.Closed c (levels_by p root es) es w
    → ((d : Effect) (ds : List Effect) → es ≡ d ∷ ds
    → Closes p h.mode h.body r d b (levels.closing c d)) → now < later
    → IsCourse p fuel w (h.picks ++ Attempt h.place.path picks ∷ []) ws later fresh h.place b
closed_in p fuel root [] w picks h ws now later fresh r b c k m runs cost nothing is close rises =
    absurd k
closed_in p fuel root (d ∷ ds) w picks h ws now later fresh r b c k m runs cost nothing is close
    rises =
    closed_by p fuel root d ds w picks h ws now later fresh r b c k m runs cost nothing is
    (close d ds refl) rises

closed : (p : Program) (fuel : ℕ) (v w : Levels) (picks : List Pick) (h : Held) (ws : List Held)
    (now later fresh : ℕ) (r : Ended) (b : Term) (c : Closing)
    → (k : Comes p fuel v picks (h ∷ ws) now r) → NothingFrom fresh (seen v) → layers.Closes c v w
    → ((d : Effect) (ds : List Effect) → v.attempts ≡ d ∷ ds
    → Closes p h.mode h.body r d b (levels.closing c d)) → now < later
    → IsCourse p fuel w (h.picks ++ Attempt h.place.path picks ∷ []) ws later fresh h.place b
closed p fuel v w picks h ws now later fresh r b c k nothing is close rises =
    closed_in p fuel k.root k.attempts w picks h ws now later fresh r b c k.waiting k.bounded k.runs
    (subst (λ x. spent x ≤ fuel) k.levels k.within_fuel)
    (subst (λ x. NothingFrom fresh (seen x)) k.levels nothing)
    (subst (λ x. layers.Closes c x w) k.levels is)
    (λ d ds e. close d ds (ap (λ (x : Levels). x.attempts) k.levels ∙ e)) rises

pub completion_keeps : CompletionKeeps
completion_keeps p fuel v w picks h ws clock later fresh x k nothing is rises =
    closed p fuel v w picks h ws clock later fresh (goes (term.Value x)) (term.Value x)
    closing.Completed k nothing is (λ d ds e. completed x refl refl refl) rises

pub failure_keeps : FailureKeeps
failure_keeps p fuel v w picks h ws clock later fresh x k nothing is rises =
    closed p fuel v w picks h ws clock later fresh (goes (throw_of x)) (throw_of x) closing.Failed k
    nothing is (λ d ds e. failed x refl refl refl) rises

pub giving_up_keeps : GivingUpKeeps
giving_up_keeps p fuel v w picks h ws clock later fresh x k nothing m one is rises =
    closed p fuel v w picks h ws clock later fresh aborts (throw_of x) closing.Aborted k nothing is
    (λ d ds e. gave_up x refl m one refl refl) rises

pub falling_asleep_keeps : FallingAsleepKeeps
falling_asleep_keeps p fuel v w picks h ws clock later fresh marks k nothing m read is rises =
    closed p fuel v w picks h ws clock later fresh aborts (Asleep marks h.body) closing.Aborted k
    nothing is
    (λ d ds e. let r : AreMarks marks (d ∷ ds) = subst (λ x. AreMarks marks x) e read
    in fell_asleep marks refl m r.0 r.1 refl refl) rises
