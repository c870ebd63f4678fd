-- A hall in a walk.
use Rattle.std.proofs.Common.{◌≡◌, ◌≢◌, ℕ, ◌+◌, ◌-◌, ◌≤◌, true, false, List, [], ◌∷◌, ◌++◌, length, length-append, append-nil, refl, ap, sym, ◌∙◌, subst, arith}
use Rattle.fort_core.specs.declared.program.Program.{Program}
use Rattle.fort_core.specs.declared.term.Term.{Term}
use Rattle.fort_machine.specs.Effects.{Effect, idle}
use Rattle.fort_machine.specs.Ends.{has_stepped}
use Rattle.fort_machine.specs.Frames.{Frame, plug}
use Rattle.fort_machine.specs.Attempts.{goes}
use Rattle.fort_machine.specs.Proper.{Reached}
use Rattle.fort_machine.specs.Runs.{Runs, none as no_pick}
use Rattle.fort_machine.proofs.Single.{one_run}
use Rattle.fort_frames.specs.Frames.{frames, outward, rebuilt}
use Rattle.fort_frames.specs.States.{term_at}
use Rattle.fort_frames.specs.declared.place.Place.{Place}
use Rattle.fort_frames.specs.declared.state.At.{At}
use Rattle.fort_frames.specs.declared.state.At.TheVariants as at
use Rattle.fort_frames.proofs.Same.{same_term, not_passed}
use Rattle.fort_store_effects.specs.Again.{only_store}
use Rattle.fort_store_effects.specs.Calls.{Adds}
use Rattle.fort_store_effects.specs.Levels.{Levels, added_to, effect_of, levels_of, seen}
use Rattle.fort_store_effects.specs.declared.layers.Layers.{Layers}
use Rattle.fort_walk_law_course.specs.Course.{Held, AllWait, Comes, is_inner}
use Rattle.fort_walk_law_course.proofs.Reaches.{reached_here}
use Rattle.fort_walk_course.specs.declared.course.Course.{Course}
use Rattle.fort_walk_course.specs.declared.course.Waiting.{Waiting}
use Rattle.fort_walk_course.specs.Courses.{StandsAt, around, inwards}
use Rattle.fort_walk_course.specs.Taken.{MayTakeIn}
use Rattle.fort_hall_law_books.specs.Books.{Origin}
use Rattle.fort_hall_law_books.specs.Legs.{Legs}
use Rattle.fort_hall_law_books.proofs.Legs.{legs_run}
use Rattle.fort_hall_books.specs.declared.book.Closed.{Closed}
use Rattle.fort_hall_program.specs.States.{StandsIn}
use Rattle.fort_port_output.specs.declared.progress.Progress.{Progress}
use Rattle.fort_hall_legs.specs.Made.{IsMadeBy, form_origin}
use Rattle.fort_hall_legs.specs.declared.legs.HallForm.{HallForm}
use Rattle.fort_hall_legs.specs.declared.legs.HallLegs.{HallLegs}
use Rattle.fort_walk_turns.specs.Idles.{IsWalking}
use Rattle.fort_walk_turns.specs.declared.next.Walking.{Walking}
use Rattle.fort_walk.specs.Halls.{AreNext, GoesOn, HasTakenIn, IsAtRoot, IsFormOf, IsUnmarked, origin_of}
use Rattle.fort_walk.specs.declared.beside.Round.{Round}
use Rattle.fort_walk.specs.Written.{printed_by}

-- ---- the root's machine

-- where no machine waits none is open
none_open : (p : Program) (now : ℕ) (root : Effect) (ws : List Held) (es : List Effect) → ws ≡ []
    → AllWait p now root ws es → es ≡ []
none_open p now root [] [] none k = refl
none_open p now root [] (e ∷ es) none k = absurd k
none_open p now root (w ∷ ws) es none k = absurd cc

pub none_is_open : (p : Program) (c : Course) (place : Place) (a : Term) → c.outer ≡ []
    → StandsAt p c place a → (levels_of c.layers).attempts ≡ []
none_is_open p c place a none s =
    let k = s.course.comes in
    ap (λ (x : Levels). x.attempts) k.levels
    ∙ none_open p c.clock k.root (around c) k.attempts (ap (λ os. inwards os []) none) k.waiting

pub is_root : (c : Course) → c.outer ≡ [] → is_inner (around c) ≡ false
is_root c none = ap (λ os. is_inner (inwards os [])) none

-- the store that is shown, in layers of which none is open
pub same_store : (v : Layers) (c : Course)
    → levels_of v ≡ only_store (seen (levels_of c.layers))
    → seen (levels_of v) ≡ seen (levels_of c.layers)
same_store v c e = ap seen e

-- where a hall begins
abbrev pub origin_at : Layers → Term → Origin
origin_at v a = record { inner = false; store = seen (levels_of v); first = a }

-- the form at which it stands is one in a term of a run
pub stands_in : (p : Program) (c : Course) (v : Layers) (place : Place) (a : Term)
    → c.outer ≡ [] → levels_of v ≡ only_store (seen (levels_of c.layers))
    → has_stepped a ≡ false → StandsAt p c place a → StandsIn p (origin_at v a)
stands_in p c v place a none e unmarked s =
    let k = s.course in
    let fs = outward c.clock (frames place.stack) in
    let here : Reached p (is_inner (around c)) (seen (levels_of c.layers)) (plug fs a) =
    reached_here p c.fuel (levels_of c.layers) c.picks (around c) c.clock (plug fs a)
    (subst (λ x. Comes p c.fuel (levels_of c.layers) c.picks (around c) c.clock (goes x))
    (same_term c.clock (frames place.stack) a) k.comes) in
    record {
      around = fs;
      reached =
          subst (λ s'. Reached p false s' (plug fs a)) (sym (same_store v c e))
          (subst (λ i. Reached p i (seen (levels_of c.layers)) (plug fs a)) (is_root c none) here);
      through = not_passed c.clock (frames place.stack) a k.reached;
      unmarked = unmarked;
    }

-- ---- the form, for a hall

-- where the walk stands, as the hall's form has it
pub origin_is : (w : Walking) (v : Layers) (a : Term)
    → levels_of v ≡ only_store (seen (levels_of w.going.course.layers))
    → a ≡ term_at w.going.state.«at» → origin_at v a ≡ origin_of w
origin_is w v a shown same = λ i. record {
  inner = false;
  store = same_store v w.going.course shown i;
  first = same i;
}

pub unmarked_at : (a : At) → IsUnmarked a → has_stepped (term_at a) ≡ false
unmarked_at a h = subst (λ x. has_stepped (term_at x) ≡ false) (sym h.1) h.2

pub form_of : (p : Program) (w : Walking) (f : HallForm) (a : Term) → IsWalking p w → IsAtRoot w
    → f.inner ≡ false → levels_of f.view ≡ only_store (seen (levels_of w.going.course.layers))
    → f.first ≡ a → w.going.state.«at» ≡ at.Form a
    → w.going.course.spent + f.most ≤ w.going.course.fuel → IsFormOf p w f
form_of p w f a h root inner shown first is affords =
    let c = w.going.course in
    let same : f.first ≡ term_at w.going.state.«at» = first ∙ sym (ap term_at is) in
    let here : form_origin f ≡ origin_at f.view f.first =
    ap (λ i. record { inner = i; store = seen (levels_of f.view); first = f.first }) inner in
    let stands : StandsIn p (origin_at f.view (term_at w.going.state.«at»)) =
    stands_in p c f.view w.going.state.place (term_at w.going.state.«at») root.0 shown
    (unmarked_at w.going.state.«at» root.1) h.stands in
    record {
      origin = here ∙ origin_is w f.view f.first shown same;
      stands =
          subst (StandsIn p) (sym (here ∙ ap (origin_at f.view) same)) stands;
      alone = ap (λ (x : Levels). x.attempts) shown;
      root = root.0;
      affords = affords;
    }

-- ---- its legs

-- legs from there, which the fuel covers
pub are_next : (p : Program) (w : Walking) (f : HallForm) (x : HallLegs)
    → IsFormOf p w f → IsMadeBy p (form_origin f) f.most x → AreNext p w x.closed
are_next p w f x h m =
    let c = w.going.course in
    let legs : Legs p false (seen (levels_of c.layers)) (term_at w.going.state.«at») x.closed.picks
    x.closed.term (effect_of x.closed.done) =
    subst (λ (o : Origin). Legs p o.inner o.store o.first x.closed.picks x.closed.term
    (effect_of x.closed.done)) h.origin m.legs in
    record {
      legs =
          subst (λ i. Legs p i (seen (levels_of c.layers)) (term_at w.going.state.«at»)
          x.closed.picks x.closed.term (effect_of x.closed.done))
          (sym (is_root c h.root)) legs;
      bounded = m.bounded;
      affords = let within = m.affords in let covers = h.affords in omega (arith, within, covers);
    }

-- they may be taken in
pub may_take : (p : Program) (w : Walking) (x : Closed) → IsWalking p w → IsAtRoot w
    → AreNext p w x → x.picks ≢ []
    → MayTakeIn p w.going.course w.going.state.place x.term (effect_of x.done) x.picks
may_take p w x h root next some = record {
  form = term_at w.going.state.«at»;
  stands = h.stands;
  unmarked = unmarked_at w.going.state.«at» root.1;
  legs = next.legs;
  some = some;
  bounded = next.bounded;
}

-- no legs print nothing
pub none_printed : (p : Program) (w : Walking) (x : Closed) → AreNext p w x → x.picks ≡ []
    → (effect_of x.done).output ≡ []
none_printed p w x next none =
    let i = is_inner (around w.going.course) in
    let s = seen (levels_of w.going.course.layers) in
    let t = term_at w.going.state.«at» in
    let d = effect_of x.done in
    ap (λ (e : Effect). e.output)
    (one_run p i true s [] t (goes x.term) (goes t) d idle
    (subst (λ ps. Runs p i true s ps t (goes x.term) d) none
    (legs_run p i s t x.term x.picks d next.legs)) (no_pick refl refl refl)).1

-- what is done by the root's machine is printed behind what it printed
pub root_prints : (p : Program) (old new : Course) (place : Place) (a : Term) (d : Effect)
    → old.outer ≡ [] → StandsAt p old place a
    → Adds d (levels_of old.layers) (levels_of new.layers)
    → printed_by new ≡ printed_by old ++ d.output
root_prints p old new place a d none s adds =
    ap (λ (v : Levels). v.output) adds.is_new
    ∙ ap (λ es. (added_to d (levels_of old.layers) es).output) (none_is_open p old place a none s)

-- a hall that made none
pub took_none : (p : Program) (w : Walking) (x : HallLegs) (after : Round) (before b : Progress)
    → GoesOn p w.going.course after → after.walking ≡ w → (effect_of x.closed.done).output ≡ []
    → after.progress ≡ b → b.failed ≡ x.progress.failed
    → (x.progress.failed ≡ false → b.bytes ≡ before.bytes + x.progress.bytes)
    → (x.progress.failed ≡ false → before.bytes ≡ length (printed_by w.going.course))
    → HasTakenIn p w x after
took_none p w x after before b on same none is failed bytes whole = record {
  goes_on = on;
  output =
      ap (λ (v : Walking). printed_by v.going.course) same
      ∙ sym (append-nil (printed_by w.going.course))
      ∙ ap (λ l. printed_by w.going.course ++ l) (sym none);
  failed = ap (λ (q : Progress). q.failed) is ∙ failed;
  bytes = λ calm. ap (λ (q : Progress). q.bytes) is ∙ bytes calm
      ∙ ap (λ n. n + x.progress.bytes) (whole calm);
}

-- what was written is no longer than the text
pub both_fit : (one two text : List ℕ) (a b n : ℕ) → text ≡ one ++ two → n ≡ length text
    → a ≡ length one → b ≤ length two → a + b ≤ n
both_fit one two text a b n e l f g =
    let long : length text ≡ length one + length two = ap length e ∙ length-append one two in
    omega (arith, long, l, f, g)

-- what is left of the fuel covers them
pub is_covered : (p : Program) (k c : Course) (place : Place) (a : Term) → k ≡ c
    → StandsAt p c place a → c.spent + (k.fuel - k.spent) ≤ c.fuel
is_covered p k c place a same s =
    let known = s.is_spent in
    let within = s.course.comes.within_fuel in
    subst (λ (x : Course). c.spent + (x.fuel - x.spent) ≤ c.fuel) (sym same)
    (omega (arith, known, within))
