-- Attempts carry a run on.
use Rattle.std.proofs.Common.{◌≡◌, ◌≢◌, ℕ, ◌+◌, ◌-◌, ◌≤◌, true, false, List, [], ◌∷◌, ◌++◌, length, slice_get, Option, Some, None, refl, ap, sym, ◌∙◌, subst, arith}
use native.Mathlib.Numerals.{unary_clauses}
use Rattle.std.specs.Prelude.{IfSome, MatchOption}
use Rattle.fort_core.specs.declared.form.Mode.{Mode}
use Rattle.fort_core.specs.declared.form.Mode.TheVariants as mode
use Rattle.fort_core.specs.declared.pick.Pick.{Pick, Step, Attempt}
use Rattle.fort_core.specs.declared.program.Program.{Program}
use Rattle.fort_core.specs.declared.term.Term.{Term, Asleep}
use Rattle.fort_core.specs.declared.term.Term as term
use Rattle.fort_core.specs.declared.value.Value.{Value}
use Rattle.fort_machine.specs.Effects.{Store, Effect, FitsAll, afterwards, paid}
use Rattle.fort_machine.specs.Ends.{throw_of}
use Rattle.fort_machine.specs.Acts.{ends, single}
use Rattle.fort_machine.specs.Steps.{Acts}
use Rattle.fort_machine.specs.Attempts.{Ended, goes, aborts}
use Rattle.fort_machine.specs.Runs.{Runs, location}
use Rattle.fort_machine.specs.Journals.{opening_store}
use Rattle.fort_machine.proofs.Runs.{runs_fit}
use Rattle.fort_frames.specs.Frames.{frames}
use Rattle.fort_frames.specs.States.{term_at}
use Rattle.fort_frames.specs.declared.place.Place.{Place}
use Rattle.fort_frames.specs.declared.state.At.{At}
use Rattle.fort_store_effects.specs.Calls.{Adds}
use Rattle.fort_store_effects.specs.Closes as closes
use Rattle.fort_store_effects.specs.Levels.{Levels, levels_of, seen, spent, opened, closing, with_attempts, attempts_cost, IsOpen, HasAttempt}
use Rattle.fort_store_effects.specs.declared.cell.Closing.{Closing}
use Rattle.fort_store_effects.specs.declared.cell.Closing.TheVariants.{Completed, Failed, Aborted}
use Rattle.fort_store_effects.specs.declared.layers.Layers.{Layers}
use Rattle.fort_walk_law_course.specs.Course.{Held, base_of, AllWait, Comes, IsCourse, NothingFrom, is_inner}
use Rattle.fort_walk_law_course.proofs.Bounds.{closing_cost}
use Rattle.fort_walk_law_course.proofs.Store.{seen_base}
use Rattle.fort_walk_law_course.proofs.Keeps.{opening_keeps, abort_keeps, completion_keeps, failure_keeps, giving_up_keeps, falling_asleep_keeps}
use Rattle.fort_walk_course.specs.declared.course.Course.{Course}
use Rattle.fort_walk_course.specs.declared.course.Going.{Going}
use Rattle.fort_walk_course.specs.declared.course.Turn.{Turn}
use Rattle.fort_walk_course.specs.declared.course.Waiting.{Waiting}
use Rattle.fort_walk_course.specs.Courses.{HasCome, StandsAt, IsGoing, around, held, inwards}
use Rattle.fort_walk_course.specs.Calls.{MayTry, MayTryThis, MayAbort, BeginsTo, StopsTo, ClosesTo, CannotThrow, Becomes, sleeping, throwing, Aborts}
use Rattle.fort_walk_course.specs.Picked.{PicksAttempt, PicksNothing}
use Rattle.fort_walk_course.proofs.Around.{around_some, last_is_first, course_by, comes_by}
use Rattle.fort_walk_course.proofs.Seen.{spent_adds}

-- ---- an attempt begins

-- the machine that waits for it
abbrev pub waiting_of : Course → Place → Option Term → Mode → Term → Turn → Waiting
waiting_of c place kept m body turn =
    record {
      place = place;
      form = kept;
      mode = m;
      body = body;
      clock = c.clock;
      fresh = c.fresh;
      picks = c.picks;
      turn = turn;
    }

pub begin_stands : (p : Program) (c n : Course) (place root : Place) (kept : Option Term) (m : Mode)
    (body whole : Term) (turn : Turn) → (t : MayTry p c place m body)
    → IfSome kept (λ b. b ≡ t.form) → c.spent + 1 ≤ c.fuel → frames root.stack ≡ []
    → BeginsTo c place kept m body turn n → whole ≡ body
    → StandsAt p n root whole
begin_stands p c n place root kept m body whole turn t is_kept cost at k same =
    let known = t.stands.is_spent in
    let now : spent (levels_of n.layers)
    ≡ (levels_of c.layers).cost + (1 + 0 + attempts_cost (levels_of c.layers).attempts) =
    ap spent k.layers in
    let more = k.spent in
    let w = waiting_of c place kept m body turn in
    let opens : IsCourse p c.fuel (opened (levels_of c.layers)) [] (held w ∷ around c) c.clock
    c.fresh root body =
    opening_keeps p c.fuel (levels_of c.layers) c.picks (around c) c.clock c.fresh place root m
    t.form body kept t.stands.course t.is_form t.bare t.may is_kept (omega (arith, cost, known)) at
    in
    let rounds : inwards n.outer [] ≡ held w ∷ around c = last_is_first n.outer c.outer w k.outer in
    record {
      course = subst
          (λ x. IsCourse p n.fuel (levels_of n.layers) n.picks (inwards n.outer []) n.clock n.fresh
          root x) (sym same)
          (course_by p c.fuel n.fuel (opened (levels_of c.layers)) (levels_of n.layers) [] n.picks
          (held w ∷ around c) (inwards n.outer []) c.clock n.clock c.fresh n.fresh root body
          k.fuel k.layers k.picks rounds k.clock k.fresh opens);
      is_spent = omega (arith, known, now, more);
    }

pub enter_stands : (p : Program) (c n : Course) (place root : Place) (a : Term) (m : Mode)
    (body whole : Term) (turn : Turn) → MayTryThis p c place a m body → c.spent + 1 ≤ c.fuel
    → frames root.stack ≡ [] → BeginsTo c place (Some a) m body turn n → whole ≡ body
    → StandsAt p n root whole
enter_stands p c n place root a m body whole turn t cost at k same =
    begin_stands p c n place root (Some a) m body whole turn t.0 (sym t.1) cost at k same

-- ---- an attempt is open

open_in : (p : Program) (root : Effect) (es : List Effect) (picks : List Pick) (h : Held)
    (ws : List Held) (now : ℕ) (r : Ended) → AllWait p now root (h ∷ ws) es
    → (let b = base_of p root (h ∷ ws) es in Runs p b.inner true b.store picks b.first r b.done)
    → IsOpen (afterwards root (opening_store p)) es
open_in p root [] picks h ws now r k runs = absurd k
open_in p root (d ∷ ds) picks h ws now r k runs =
    subst (FitsAll d) (sym (seen_base p h.clock root ws ds k.2)) (runs_fit _ _ _ _ _ runs)

open_here : (p : Program) (fuel : ℕ) (v : Levels) (picks : List Pick) (h : Held) (ws : List Held)
    (now : ℕ) (r : Ended) → Comes p fuel v picks (h ∷ ws) now r → IsOpen v.store v.attempts
open_here p fuel v picks h ws now r c =
    subst (λ (x : Levels). IsOpen x.store x.attempts) (sym c.levels)
    (open_in p c.root c.attempts picks h ws now r c.waiting c.runs)

pub is_open : (p : Program) (c : Course) (r : Ended) → HasCome p c r → c.outer ≢ []
    → IsOpen (levels_of c.layers).store (levels_of c.layers).attempts
is_open p c r h some =
    let one = around_some c.outer some in
    open_here p c.fuel (levels_of c.layers) c.picks one.0 one.1 c.clock r
    (subst (λ hs. Comes p c.fuel (levels_of c.layers) c.picks hs c.clock r) one.2 h.comes)

has_one : (s : Store) (es : List Effect) → IsOpen s es → HasAttempt es
has_one s [] h = h
has_one s (e ∷ es) h = tt

pub has_attempt : (p : Program) (c : Course) (r : Ended) → HasCome p c r → c.outer ≢ []
    → HasAttempt (levels_of c.layers).attempts
has_attempt p c r h some =
    has_one (levels_of c.layers).store (levels_of c.layers).attempts (is_open p c r h some)

-- ---- an attempt ends

closed_spent : (how : Closing) (old new : Levels) (es : List Effect) → old.attempts ≡ es
    → closes.Closed how old es new → spent new ≡ spent old
closed_spent how old new [] q h = absurd h
closed_spent how old new (e ∷ es) q h =
    let before : attempts_cost old.attempts ≡ 1 + e.cost + attempts_cost es = ap attempts_cost q in
    let after : spent new ≡ spent (with_attempts old es) + (closing how e).cost =
    spent_adds (closing how e) (with_attempts old es) new h in
    let cost : (closing how e).cost ≡ 1 + e.cost = closing_cost how e in
    omega (arith, before, after, cost)

pub closes_spent : (how : Closing) (old new : Levels) → closes.Closes how old new
    → spent new ≡ spent old
closes_spent how old new h = closed_spent how old new old.attempts refl h

-- the machine that waited is the first one round the innermost one
first_waits : (how : Closing) (c : Course) (n : Course × Place) (k : ClosesTo how c n)
    → around c ≡ held k.waiting ∷ around n.0
first_waits how c n k = last_is_first c.outer n.0.outer k.waiting k.outer

comes_in : (p : Program) (how : Closing) (c : Course) (n : Course × Place) (r : Ended)
    → HasCome p c r → (k : ClosesTo how c n)
    → Comes p c.fuel (levels_of c.layers) c.picks (held k.waiting ∷ around n.0) c.clock r
comes_in p how c n r h k =
    subst (λ gs. Comes p c.fuel (levels_of c.layers) c.picks gs c.clock r) (first_waits how c n k)
    h.comes

closed_stands : (p : Program) (c : Course) (n : Course × Place) (r : Ended) (how : Closing)
    (b : Term) → HasCome p c r → (k : ClosesTo how c n)
    → IsCourse p c.fuel (levels_of n.0.layers)
    (k.waiting.picks ++ Attempt k.waiting.place.path c.picks ∷ []) (around n.0) n.0.clock c.fresh
    k.waiting.place b → StandsAt p n.0 n.1 b
closed_stands p c n r how b h k i =
    let same =
    course_by p c.fuel n.0.fuel (levels_of n.0.layers) (levels_of n.0.layers)
    (k.waiting.picks ++ Attempt k.waiting.place.path c.picks ∷ []) n.0.picks (around n.0)
    (around n.0) n.0.clock n.0.clock c.fresh n.0.fresh k.waiting.place b
    k.fuel refl k.picks refl refl k.fresh i in
    record {
      course = subst
          (λ x. IsCourse p n.0.fuel (levels_of n.0.layers) n.0.picks (around n.0) n.0.clock
          n.0.fresh x b) (sym k.is_place) same;
      is_spent =
          k.spent ∙ h.is_spent
          ∙ sym (closes_spent how (levels_of c.layers) (levels_of n.0.layers) k.layers);
    }

pub completes : (p : Program) (c : Course) (n : Course × Place) (v : Value)
    → HasCome p c (goes (term.Value v)) → ClosesTo Completed c n → StandsAt p n.0 n.1 (term.Value v)
completes p c n v h k =
    closed_stands p c n (goes (term.Value v)) Completed (term.Value v) h k
    (completion_keeps p c.fuel (levels_of c.layers) (levels_of n.0.layers) c.picks (held k.waiting)
    (around n.0) c.clock n.0.clock c.fresh v
    (comes_in p Completed c n (goes (term.Value v)) h k) h.nothing k.layers k.clock)

pub fails : (p : Program) (c : Course) (n : Course × Place) (v : Value)
    → HasCome p c (goes (throw_of v)) → ClosesTo Failed c n → StandsAt p n.0 n.1 (throw_of v)
fails p c n v h k =
    closed_stands p c n (goes (throw_of v)) Failed (throw_of v) h k
    (failure_keeps p c.fuel (levels_of c.layers) (levels_of n.0.layers) c.picks (held k.waiting)
    (around n.0) c.clock n.0.clock c.fresh v (comes_in p Failed c n (goes (throw_of v)) h k)
    h.nothing k.layers k.clock)

becomes_in : (p : Program) (c : Course) (n : Course × Place) (b : Term) → HasCome p c aborts
    → (k : ClosesTo Aborted c n) → Becomes p (held k.waiting) (levels_of c.layers) b
    → StandsAt p n.0 n.1 b
becomes_in p c n b h k (sleeping marks m are e) =
    subst (StandsAt p n.0 n.1) (sym e)
    (closed_stands p c n aborts Aborted (Asleep marks k.waiting.body) h k
    (falling_asleep_keeps p c.fuel (levels_of c.layers) (levels_of n.0.layers) c.picks
    (held k.waiting) (around n.0) c.clock n.0.clock c.fresh marks
    (comes_in p Aborted c n aborts h k) h.nothing m are k.layers k.clock))
becomes_in p c n b h k (throwing x m one e) =
    subst (StandsAt p n.0 n.1) (sym e) (closed_stands p c n aborts Aborted (throw_of x) h k
    (giving_up_keeps p c.fuel (levels_of c.layers) (levels_of n.0.layers) c.picks (held k.waiting)
    (around n.0) c.clock n.0.clock c.fresh x (comes_in p Aborted c n aborts h k) h.nothing m
    one k.layers k.clock))

-- the layers stand for the same still
pub come_same : (p : Program) (c : Course) (r : Ended) (layers : Layers) → HasCome p c r
    → levels_of layers ≡ levels_of c.layers → HasCome p (record c { layers = layers }) r
come_same p c r layers h e = record {
  comes = subst (λ v. Comes p c.fuel v c.picks (around c) c.clock r) (sym e) h.comes;
  nothing = subst (λ v. NothingFrom c.fresh (seen v)) (sym e) h.nothing;
  is_spent = h.is_spent ∙ ap spent (sym e);
}

same_held : (hs gs : List Held) (h g : Held) → h ∷ hs ≡ g ∷ gs → h ≡ g
same_held hs gs h g e = cc

becomes_stands : (p : Program) (c : Course) (layers : Layers) (n : Course × Place)
    (rest : List Waiting) (w : Waiting) (b : Term) → HasCome p c aborts
    → levels_of layers ≡ levels_of c.layers → c.outer ≡ rest ++ w ∷ []
    → Becomes p (held w) (levels_of c.layers) b → ClosesTo Aborted (record c { layers = layers }) n
    → StandsAt p n.0 n.1 b
becomes_stands p c layers n rest w b h e o i k =
    let rounds : around c ≡ held w ∷ inwards rest [] = last_is_first c.outer rest w o in
    let same : held w ≡ held k.waiting =
    same_held (inwards rest []) (around n.0) (held w) (held k.waiting) (sym rounds
    ∙ first_waits Aborted (record c { layers = layers }) n k) in
    becomes_in p (record c { layers = layers }) n b (come_same p c aborts layers h e) k
    (subst (λ g. Becomes p g (levels_of layers) b) same
    (subst (λ v. Becomes p (held w) v b) (sym e) i))

-- the last one that waits
last_over : (x : Waiting) (ws : List Waiting) (w : Waiting)
    → slice_get (x ∷ ws) (length ws) ≡ Some w → (rest : List Waiting) × (x ∷ ws ≡ rest ++ w ∷ [])
last_over x [] w e = let q : x ≡ w = cc in ([], ap (λ y. y ∷ []) q)
last_over x (y ∷ ws) w e = let r = last_over y ws w e in (x ∷ r.0, ap (λ l. x ∷ l) r.1)

pub last_waits : (ws : List Waiting) (w : Waiting) → slice_get ws (length ws - 1) ≡ Some w
    → (rest : List Waiting) × (ws ≡ rest ++ w ∷ [])
last_waits [] w e = absurd cc
last_waits (x ∷ ws) w e = last_over x ws w (simp unary_clauses at e)

none_over : (x : Waiting) (ws : List Waiting) → slice_get (x ∷ ws) (length ws) ≡ None → ⊥
none_over x [] e = cc
none_over x (y ∷ ws) e = none_over y ws e

none_waits : (ws : List Waiting) → slice_get ws (length ws - 1) ≡ None → ws ≡ []
none_waits [] e = refl
none_waits (x ∷ ws) e = absurd (none_over x ws (simp unary_clauses at e))

pub one_waits : (c : Course) (ws : List Waiting) → c.outer ≢ [] → ws ≡ c.outer
    → slice_get ws (length ws - 1) ≡ None → ⊥
one_waits c ws some same e = some (sym same ∙ none_waits ws e)

waits_in : (c : Course) (ws : List Waiting) (w : Waiting) → ws ≡ c.outer
    → slice_get ws (length ws - 1) ≡ Some w → (rest : List Waiting) × (c.outer ≡ rest ++ w ∷ [])
waits_in c ws w same e =
    last_waits c.outer w (subst (λ xs. slice_get xs (length xs - 1) ≡ Some w) same e)

pub aborted_stands : (p : Program) (c : Course) (layers : Layers) (n : Course × Place)
    (ws : List Waiting) (w : Waiting) (o : Option At) (a : At) → HasCome p c aborts
    → levels_of layers ≡ levels_of c.layers → ws ≡ c.outer
    → slice_get ws (length ws - 1) ≡ Some w → Aborts p (held w) (levels_of c.layers) o → o ≡ Some a
    → ClosesTo Aborted (record c { layers = layers }) n → StandsAt p n.0 n.1 (term_at a)
aborted_stands p c layers n ws w o a h e same last i some k =
    let r = waits_in c ws w same last in
    becomes_stands p c layers n r.0 w (term_at a) h e r.1
    (subst (Aborts p (held w) (levels_of c.layers)) some i) k

-- nothing to throw
cannot_throw : (p : Program) (c : Course) (rest : List Waiting) (w : Waiting)
    → c.outer ≡ rest ++ w ∷ []
    → (w.mode ≡ mode.Try) × (single p p.built_in.try_atomic_failure ≡ None)
    → CannotThrow p (around c)
cannot_throw p c rest w o h = subst (CannotThrow p) (sym (last_is_first c.outer rest w o)) h

pub nothing_thrown : (p : Program) (c : Course) (ws : List Waiting) (w : Waiting) (o : Option At)
    → ws ≡ c.outer → slice_get ws (length ws - 1) ≡ Some w
    → Aborts p (held w) (levels_of c.layers) o → o ≡ None → CannotThrow p (around c)
nothing_thrown p c ws w o same last i none =
    let r = waits_in c ws w same last in
    cannot_throw p c r.0 w r.1 (subst (Aborts p (held w) (levels_of c.layers)) none i)

pub cannot_still : (p : Program) (c n : Course) → n.outer ≡ c.outer → CannotThrow p (around n)
    → CannotThrow p (around c)
cannot_still p c n o h = subst (λ os. CannotThrow p (inwards os [])) o h

-- ---- a step of `abort()`

aborts_on : (p : Program) (fuel : ℕ) (v w : Levels) (picks : List Pick) (hs : List Held)
    (clock fresh : ℕ) (place : Place) (a : Term) → is_inner hs ≡ true
    → IsCourse p fuel v picks hs clock fresh place a → Acts p a ends → Adds (paid 1) v w
    → spent w ≤ fuel
    → Comes p fuel w (picks ++ Step place.path (location 0) ∷ []) hs clock aborts
    × NothingFrom fresh (seen w)
aborts_on p fuel v w picks [] clock fresh place a i c acts adds cost = absurd cc
aborts_on p fuel v w picks (h ∷ hs) clock fresh place a i c acts adds cost =
    abort_keeps p fuel v w picks h hs clock fresh place a c acts adds cost

pub aborts_come : (p : Program) (c n : Course) (place : Place) → MayAbort p c place
    → c.spent + 1 ≤ c.fuel → StopsTo c place n → HasCome p n aborts
aborts_come p c n place m cost s =
    let known = m.stands.is_spent in
    let now : spent (levels_of n.layers) ≡ spent (levels_of c.layers) + 1 =
    spent_adds (paid 1) (levels_of c.layers) (levels_of n.layers) s.layers.is_new in
    let more = s.spent in
    let k = aborts_on p c.fuel (levels_of c.layers) (levels_of n.layers) c.picks (around c) c.clock
    c.fresh place m.form m.inside m.stands.course m.acts s.layers
    (omega (arith, now, known, cost)) in
    record {
      comes = comes_by p c.fuel n.fuel (levels_of n.layers) (levels_of n.layers)
          (c.picks ++ Step place.path (location 0) ∷ []) n.picks (around c) (around n) c.clock
          n.clock aborts s.fuel refl s.picks (ap (λ os. inwards os []) s.outer) s.clock k.0;
      nothing = subst (λ f. NothingFrom f (seen (levels_of n.layers))) (sym s.fresh) k.1;
      is_spent = omega (arith, now, known, more);
    }

some_wait : (os : List Waiting) → is_inner (inwards os []) ≡ true → os ≢ []
some_wait [] i e = let z : false ≡ true = i in cc
some_wait (o ∷ os) i e = cc

-- where an attempt's machine stops, one waits
pub stops_within : (p : Program) (c n : Course) (place : Place) → MayAbort p c place
    → StopsTo c place n → n.outer ≢ []
stops_within p c n place m s = subst (λ os. os ≢ []) (sym s.outer) (some_wait c.outer m.inside)

pub going_still : (p : Program) (c n : Course) (o : Option Going) → n.outer ≡ c.outer
    → MatchOption o (CannotThrow p (around n)) (IsGoing p)
    → MatchOption o (CannotThrow p (around c)) (IsGoing p)
going_still p c n None e h = cannot_still p c n e h
going_still p c n (Some g) e h = h

-- ---- the picks

pub begin_picks : (c n : Course) (place : Place) (kept : Option Term) (m : Mode) (body : Term)
    (turn : Turn) → BeginsTo c place kept m body turn n → PicksNothing c place n
begin_picks c n place kept m body turn k = record {
  picks = k.picks;
  waiting = waiting_of c place kept m body turn;
  outer = k.outer;
  is_place = refl;
  before = refl;
}

-- however the attempt ends, and whatever the layers are
pub close_picks : (how : Closing) (c : Course) (layers : Layers) (n : Course × Place)
    → ClosesTo how (record c { layers = layers }) n → PicksAttempt c c.picks n.0
close_picks how c layers n k = record { waiting = k.waiting; outer = k.outer; picks = k.picks }

-- the step of `abort()` is the attempt's last pick
pub stop_picks : (c n : Course) (place : Place) (o : Option Going) → StopsTo c place n
    → IfSome o (λ g. PicksAttempt n n.picks g.course)
    → IfSome o (λ g. PicksAttempt c (c.picks ++ Step place.path (location 0) ∷ []) g.course)
stop_picks c n place None s h = h
stop_picks c n place (Some g) s h =
    record {
      waiting = h.waiting;
      outer = sym s.outer ∙ h.outer;
      picks = h.picks
          ∙ ap (λ ps. h.waiting.picks ++ Attempt h.waiting.place.path ps ∷ []) s.picks;
    }
