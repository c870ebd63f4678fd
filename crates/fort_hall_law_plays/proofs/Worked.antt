-- The worked plays.
use Rattle.std.proofs.Common.{◌≡◌, ℕ, ◌+◌, ◌≤◌, ◌==◌, true, false, List, [], ◌∷◌, ◌++◌, map, Some, None, refl, ap, sym, ◌∙◌, subst, arith, if◌then◌else◌}
use Rattle.std.specs.Prelude.{Ok}
use Rattle.fort_core.specs.declared.form.Mode.TheVariants as mode
use Rattle.fort_core.specs.declared.pick.Pick.{Pick, Attempt}
use Rattle.fort_core.specs.declared.pick.Pick.TheVariants.{outs-Step}
use Rattle.fort_core.specs.declared.program.Program.{Program}
use Rattle.fort_core.specs.declared.term.Term.{Term, out-Term}
use Rattle.fort_core.specs.declared.term.Term as term
use Rattle.fort_core.specs.declared.term.Term.TheOpen.{Term-F}
use Rattle.fort_core.specs.declared.term.Term.TheVariants.{outs-Call, outs-Atomic, outs-Asleep}
use Rattle.fort_machine.specs.Acts.{unit}
use Rattle.fort_machine.specs.Attempts.{goes, fresh, completed}
use Rattle.fort_machine.specs.Effects.{Effect, FitsAll, both, idle, completing}
use Rattle.fort_machine.specs.Ends.{has_stepped, is_mark, open_yet, standing, standing_at, at_value}
use Rattle.fort_machine.specs.Journals.{Records, opening_store}
use Rattle.fort_machine.specs.Runs.{Runs, none, location, path_to}
use Rattle.fort_machine.specs.Threads.{under}
use Rattle.fort_machine.specs.Worked.{set, hello, two_steps}
use Rattle.fort_machine.proofs.Places.{plug_open}
use Rattle.fort_machine.proofs.Runs.{runs_fit, under-Step, under-Attempt}
use Rattle.fort_machine.proofs.Single.{one_run}
use Rattle.fort_machine.proofs.Standing.{standing-Value}
use Rattle.fort_machine.proofs.WholeEffects.{idle_both}
use Rattle.fort_store_effects.specs.Levels.{effect_of}
use Rattle.fort_store_effects.specs.declared.layer.Layer.{Layer}
use Rattle.fort_walk_legs.specs.Legs.{IsStepOf, AreSteps}
use Rattle.fort_hall_law_books.specs.Books.{Origin, root_of, store_after}
use Rattle.fort_hall_law_books.specs.Puts.{IsPut}
use Rattle.fort_hall_law_books.proofs.Legs.{legs_run}
use Rattle.fort_hall_books.specs.Answers.{IsAsleep, Suits, Appends}
use Rattle.fort_hall_books.specs.Books.{origin_of, did, store_of, picks_of, IsKept}
use Rattle.fort_hall_books.specs.Legs.{IsLegOf, Watches, steps}
use Rattle.fort_hall_books.specs.declared.book.Book.{Book}
use Rattle.fort_hall_books.specs.declared.leg.Answer.TheVariants.{Done}
use Rattle.fort_hall_books.specs.declared.leg.Leg.{Leg}
use Rattle.fort_hall_books.proofs.Books.{new_book}
use Rattle.fort_hall_law_plays.specs.Attempts.{StandsAt, Begins, at_term, IsWhole}
use Rattle.fort_hall_law_plays.specs.Offers.{taken, refused, answered, gone, Offers}
use Rattle.fort_hall_law_plays.specs.Plays.{begin, finish, Leaves, Plays}
use Rattle.fort_hall_law_plays.specs.Worked.{both_steps, OneIsTaken, attempting, at_first, one_attempt, AttemptGoesIn}
use Rattle.fort_hall_law_plays.specs.Worlds.{Opened, World, with_book, Starts}
use Rattle.fort_hall_law_plays.proofs.Good.{start_origin}

-- ---- the root's book before

same_terms : (t u : Term) → goes t ≡ goes u → t ≡ u
same_terms t u e = cc

-- a book without an entry stands at its first term
at_its_first : (p : Program) (x : Book) → IsKept p x → x.entries ≡ [] → x.term ≡ x.first
at_its_first p x k e =
    let s = (origin_of x).store in
    let run = legs_run p x.inner s x.first x.term (picks_of x.entries) (did x) k.legs in
    let runs = subst (λ es. Runs p x.inner true s (picks_of es) x.first (goes x.term) (did x)) e run
    in same_terms x.term x.first
    (one_run p x.inner true s [] x.first (goes x.term) (goes x.first) (did x) idle runs
    (none refl refl refl)).0

record Root (p : Program) (x : Book) : Type 0 where
  origin : root_of p ≡ origin_of x
  most : x.most ≡ 4
  entries : x.entries ≡ []
  effect : did x ≡ idle
  term : x.term ≡ p.first
  store : store_of x ≡ opening_store p

root : (p : Program) (w : World) (k : Starts p (root_of p) 4 w) → Root p k.book
root p w k =
    let origin = start_origin p (root_of p) 4 w k in
    record {
      origin = origin;
      most = k.is_new.bound;
      entries = k.is_new.entries;
      effect = k.is_new.effect;
      term = at_its_first p k.book (k.is_new.kept p) k.is_new.entries
          ∙ ap (λ (o : Origin). o.first) (sym origin);
      store = λ i. store_after (sym origin i) (k.is_new.effect i);
    }

-- ---- a leg of its whole term

-- the book behind it
abbrev behind : Leg → Book → Book
behind leg x = record x {
  done = leg.done;
  entries = x.entries ++ record { pass = 1; picks = map (under leg.path.0) leg.picks } ∷ [];
  term = leg.term;
}

suits : (p : Program) (x : Book) (leg : Leg) → Root p x → leg.inner ≡ false
    → (effect_of leg.done).cost ≤ 4 → FitsAll (effect_of leg.done) (opening_store p)
    → (IsAsleep leg.kind (store_of x) → ⊥) → Suits x leg
suits p x leg r inner cost fits wakes = record {
  machine = inner ∙ ap (λ (o : Origin). o.inner) r.origin;
  affords =
      let spent : (did x).cost ≡ 0 = ap (λ (d : Effect). d.cost) r.effect in
      let most : x.most ≡ 4 = r.most in
      let own : (effect_of leg.done).cost ≤ 4 = cost in omega (arith, spent, most, own);
  fits = subst (FitsAll (effect_of leg.done)) (sym r.store) fits;
  wakes = wakes;
}

appends : (p : Program) (x : Book) (leg : Leg) → Root p x → Suits x leg
    → Appends leg 1 leg.term x (behind leg x)
appends p x leg r s = record {
  suits = s;
  entries = refl;
  term = refl;
  effect = sym (ap (λ d. both d (effect_of leg.done)) r.effect ∙ idle_both (effect_of leg.done));
}

puts : (p : Program) (x : Book) (next : Term) → Root p x → IsPut x.term [] p.first next next
puts p x next r =
    record { frames = []; is_term = r.term; is_path = refl; reached = refl; is_new = refl }

-- the root's book alone
abbrev only : Book → Opened
only x = record { book = x; opening = None }

-- ---- two workers

first_mark : has_stepped hello.first ≡ false
first_mark = ap is_mark (outs-Call (set 0) [])

first_open : standing hello.first ≡ open_yet
first_open = ap standing_at (outs-Call (set 0) [])

are_steps : AreSteps two_steps.picks
are_steps =
    let one : IsStepOf _ = subst IsStepOf (sym (outs-Step (path_to []) (location 0))) tt in
    (one, (one, tt))

is_leg : (done : Layer) → Records hello two_steps (term.Value unit) (effect_of done)
    → IsLegOf hello (both_steps done)
is_leg done k = record {
  store = opening_store hello;
  taken = steps refl (λ e. absurd cc) (record { runs = k.is_run.runs; steps = are_steps });
  unmarked = first_mark;
  bounded = k.is_run.bounded;
}

same_picks : map (under []) two_steps.picks ≡ two_steps.picks
same_picks = λ i. under-Step [] [] (location 0) i ∷ under-Step [] [] (location 0) i ∷ []

is_gone : (path : List ℕ) (next whole : Term) → IsPut (term.Value unit) path hello.first next whole
    → ⊥
is_gone path next whole put =
    let z : at_value unit ≡ open_yet =
    sym (standing-Value unit) ∙ ap standing put.is_term
    ∙ plug_open put.frames hello.first first_open
    in absurd cc

first_offer : (w : World) (done : Layer) (k : Starts hello (root_of hello) 4 w)
    → Records hello two_steps (term.Value unit) (effect_of done)
    → Offers 0 (both_steps done) 1 taken w
    (with_book 0 (Some (only (behind (both_steps done) k.book))) w)
first_offer w done k h =
    let x = k.book in
    let r = root hello w k in
    let fits = runs_fit (opening_store hello) two_steps.picks hello.first (goes (term.Value unit))
    (effect_of done) h.is_run.runs in
    let s = suits hello x (both_steps done) r refl h.within_fuel fits (λ z. z) in
    record {
      old = only x;
      new = behind (both_steps done) x;
      is_there = ap (λ v. v.books 0) k.is_world;
      answers = answered (term.Value unit) (Ok (Done x.term)) (puts hello x (term.Value unit) r)
          (record { origin = refl; bound = refl }) (appends hello x (both_steps done) r s, refl)
          refl;
      is_world = refl;
    }

second_offer : (w : World) (done : Layer) (x : Book) → x.term ≡ term.Value unit
    → Offers 0 (both_steps done) 2 refused (with_book 0 (Some (only x)) w)
    (with_book 0 (Some (only x)) (with_book 0 (Some (only x)) w))
second_offer w done x e = record {
  old = only x;
  new = x;
  is_there = refl;
  answers = gone
      (λ whole put. is_gone [] (term.Value unit) whole
      (subst (λ t. IsPut t [] hello.first (term.Value unit) whole) e put)) refl refl;
  is_world = refl;
}

pub one_is_taken : OneIsTaken
one_is_taken w done k h =
    let x = behind (both_steps done) k.book in
    let first = with_book 0 (Some (only x)) w in
    let last = with_book 0 (Some (only x)) first in (
      last,
      (
        first,
        (is_leg done h, first_offer w done k h),
        (last, (is_leg done h, second_offer w done x refl), refl),
      ),
      x,
      refl,
      ap (λ es. es ++ record { pass = 1; picks = map (under []) two_steps.picks } ∷ [])
          k.is_new.entries
          ∙ ap (λ ps. record { pass = 1; picks = ps } ∷ []) same_picks,
      refl,
      refl,
    )

-- ---- an attempt

-- the world in which the root's book stands alone
abbrev alone : Book → World
alone x = record { books = λ n. if n == 0 then Some (only x) else None; next = 1 }

never_sleeps : Watches None attempting.first
never_sleeps s h =
    let z : Term-F.Atomic mode.Atomic (term.Value unit) ≡ Term-F.Asleep h.marks h.body =
    sym (outs-Atomic mode.Atomic (term.Value unit)) ∙ ap out-Term h.is_asleep
    ∙ outs-Asleep h.marks h.body
    in absurd cc

stands : (x : Book) → Root attempting x → StandsAt x.term at_first
stands x r = record {
  around = [];
  is_term = r.term;
  is_path = refl;
  reached = refl;
  unmarked = ap is_mark (outs-Atomic mode.Atomic (term.Value unit));
  is_part = refl;
  through = refl;
}

-- the attempt's book
abbrev inside : {w : World} → Starts attempting (root_of attempting) 4 w → Book
inside k = record k.book {
  inner = true;
  view = k.view;
  first = term.Value unit;
  most = 3;
  term = term.Value unit;
}

-- the worlds after each event
abbrev at_form : Book → Opened
at_form x = record { book = x; opening = Some at_first }

abbrev begun : {w : World} → Starts attempting (root_of attempting) 4 w → World
begun k =
    record (with_book 1 (Some (at_form (inside k))) (alone k.book)) { next = 1 + 1 }

abbrev ended : {w : World} → Layer → Starts attempting (root_of attempting) 4 w → World
ended done k =
    with_book 0 (Some (only (behind (one_attempt done) k.book))) (with_book 1 None (begun k))

begins : (w : World) (k : Starts attempting (root_of attempting) 4 w)
    → Begins at_first 3 (alone k.book) (begun k)
begins w k =
    let r = root attempting w k in
    record {
      outer = only k.book;
      is_there = refl;
      stands = stands k.book r;
      body = term.Value unit;
      is_form = fresh refl;
      view = k.view;
      is_store = k.is_store ∙ sym r.store;
      book = inside k;
      is_new = new_book true k.view (term.Value unit) 3 (inside k) refl refl refl refl r.effect
          r.entries refl;
      is_world = refl;
    }

abbrev leaves : (w : World) (k : Starts attempting (root_of attempting) 4 w)
    → Leaves 1 (begun k) (with_book 1 None (begun k))
leaves w k = record {
  attempt = at_form (inside k);
  opening = at_first;
  is_there = refl;
  is_opened = refl;
  is_world = refl;
}

whole : (w : World) (done : Layer) (k : Starts attempting (root_of attempting) 4 w)
    → effect_of done ≡ completing idle → IsWhole attempting (inside k) at_first (one_attempt done)
whole w done k e = record {
  within = [];
  ended = goes (term.Value unit);
  done = idle;
  becomes = term.Value unit;
  watched = None;
  led = at_term (sym (ap picks_of k.is_new.entries)) refl (sym k.is_new.effect);
  closes = completed unit refl refl e;
  is_path = refl;
  is_part = refl;
  is_kind = refl;
  watches = never_sleeps;
  is_picks = refl;
  is_term = refl;
}

handed_in : (w : World) (done : Layer) (k : Starts attempting (root_of attempting) 4 w)
    → effect_of done ≡ completing idle
    → Offers 0 (one_attempt done) 1 taken (with_book 1 None (begun k)) (ended done k)
handed_in w done k e =
    let x = k.book in
    let r = root attempting w k in
    let cost : (effect_of done).cost ≡ 1 = ap (λ (d : Effect). d.cost) e in
    let fits = subst (λ (d : Effect). FitsAll d (opening_store attempting)) (sym e) (λ l. tt) in
    let s = suits attempting x (one_attempt done) r refl (omega (arith, cost)) fits (λ z. z) in
    record {
      old = only x;
      new = behind (one_attempt done) x;
      is_there = refl;
      answers = answered (term.Value unit) (Ok (Done x.term))
          (puts attempting x (term.Value unit) r) (record { origin = refl; bound = refl })
          (appends attempting x (one_attempt done) r s, refl) refl;
      is_world = refl;
    }

plays_it : (w : World) (done : Layer) (k : Starts attempting (root_of attempting) 4 w)
    → effect_of done ≡ completing idle
    → Plays attempting (alone k.book)
    (begin at_first 3 ∷ finish 1 0 (one_attempt done) 1 taken ∷ []) (ended done k)
plays_it w done k e = (
  begun k,
  begins w k,
  (
    ended done k,
    record {
      between = with_book 1 None (begun k);
      leaves = leaves w k;
      is_book = refl;
      is_whole = whole w done k e;
      offers = handed_in w done k e;
    },
    refl,
  ),
)

same_attempt : map (under []) (Attempt (path_to []) [] ∷ []) ≡ Attempt (path_to []) [] ∷ []
same_attempt = λ i. under-Attempt [] [] [] i ∷ []

pub attempt_goes_in : AttemptGoesIn
attempt_goes_in w done k e = (
  ended done k,
  subst (λ v. Plays attempting v (begin at_first 3 ∷ finish 1 0 (one_attempt done) 1 taken ∷ [])
      (ended done k)) (sym k.is_world) (plays_it w done k e),
  refl,
  behind (one_attempt done) k.book,
  refl,
  ap (λ es. es ++ record { pass = 1; picks = map (under []) (Attempt (path_to []) [] ∷ []) } ∷ [])
      k.is_new.entries
      ∙ ap (λ ps. record { pass = 1; picks = ps } ∷ []) same_attempt,
  refl,
  e,
)
