-- What holds of every play.
use Rattle.std.proofs.Common.{◌≡◌, ◌≢◌, ℕ, ◌+◌, ◌<◌, ◌≤◌, List, [], ◌∷◌, ◌++◌, map, Option, Some, None, refl, ap, sym, ◌∙◌, subst, append_assoc, ◌⊎◌, inl, inr, arith}
use Rattle.std.proofs.lemmas.List.{map-append, append-nil}
use Rattle.std.specs.Prelude.{IfSome}
use Rattle.fort_core.specs.declared.program.Program.{Program}
use Rattle.fort_machine.specs.Attempts.{goes}
use Rattle.fort_machine.specs.Effects.{Effect, FitsAll, idle}
use Rattle.fort_machine.specs.Proper.{Reached, at_first}
use Rattle.fort_machine.specs.Written.{WrittenProgram}
use Rattle.fort_store_effects.specs.Levels.{effect_of}
use Rattle.fort_hall_law_books.specs.Books.{Origin, root_of, IsBook, store_after}
use Rattle.fort_hall_law_books.proofs.Legs.{legs_run}
use Rattle.fort_hall_books.specs.Answers.{Suits, IsAsleep}
use Rattle.fort_hall_books.specs.Books.{origin_of, did, store_of, picks_of, IsSame}
use Rattle.fort_hall_books.specs.declared.book.Book.{Book}
use Rattle.fort_hall_books.specs.declared.leg.Leg.{Leg}
use Rattle.fort_hall_books.proofs.Books.{kept_is_book}
use Rattle.fort_hall_law_plays.specs.Attempts.{Begins}
use Rattle.fort_hall_law_plays.specs.Histories.{Given, entry_of, done_by, given_by, given, entries_of}
use Rattle.fort_hall_law_plays.specs.Laws.{PlaysKeep, GoesOn, PlaysGoOn, PlayIsRun, AttemptIsLeg, SubmitIsEvent, FreshLegSuits}
use Rattle.fort_hall_law_plays.specs.Offers.{Outcome, is_taken, answered, Offers}
use Rattle.fort_hall_law_plays.specs.Plays.{Event, submit, begin, finish, leave, Leaves, Happens, Plays}
use Rattle.fort_hall_law_plays.specs.Worlds.{Opening, Opened, World, with_book, Starts}
use Rattle.fort_hall_law_plays.proofs.Answered.{answers_go}
use Rattle.fort_hall_law_plays.proofs.Attempts.{WasOpened, taken_fits}
use Rattle.fort_hall_law_plays.proofs.Good.{AllGood, good_after, plays_good, good_start, start_origin, finished_is_leg}
use Rattle.fort_hall_law_plays.proofs.Growth.{done_append, goes_far, still}
use Rattle.fort_hall_law_plays.proofs.Histories.{own_gift, no_gift, given_append, own_offers}
use Rattle.fort_hall_law_plays.proofs.Worlds.{here, elsewhere, found, is_root, one_book, no_book, no_opening}

-- the root's book in a world
abbrev only : Book → Opened
only x = record { book = x; opening = None }

-- ---- one event

-- a book that was there before, and has gone on
record Was (w : World) (gs : List Given) (n : ℕ) (y : Opened) : Type 0 where
  before : Opened
  is_there : w.books n ≡ Some before
  goes_on : GoesOn gs before.book y.book
  opening : y.opening ≡ before.opening

-- or it is a new one
record IsFirst (w : World) (gs : List Given) (n : ℕ) (y : Opened) : Type 0 where
  number : n ≡ w.next
  nothing : gs ≡ []
  entries : y.book.entries ≡ []
  effect : did y.book ≡ idle

after_offer : (m : ℕ) (leg : Leg) (pass : ℕ) (outcome : Outcome) (w w' : World)
    → Offers m leg pass outcome w w' → (n : ℕ) (y : Opened) → w'.books n ≡ Some y
    → Was w (given_by n (submit m leg pass outcome)) n y
after_offer m leg pass outcome w w' k n y h =
    let g : Given = record { leg = leg; pass = pass } in
    let x = Some (record k.old { book = k.new }) in
    let there : (with_book m x w).books n ≡ Some y = ap (λ v. v.books n) (sym k.is_world) ∙ h in
    elim (found m n x w y there) [
      | inl a ↦ subst (λ i. Was w (given_by i (submit m leg pass outcome)) i y) (sym a.0)
          (subst (Was w (given_by m (submit m leg pass outcome)) m)
          (one_book (record k.old { book = k.new }) y x refl a.1)
          (record {
            before = k.old;
            is_there = k.is_there;
            goes_on = subst (λ gs. GoesOn gs k.old.book k.new) (sym (own_gift outcome m g))
                (answers_go leg pass k.old.book k.new outcome k.answers);
            opening = refl;
          }))
      | inr a ↦ record {
        before = y;
        is_there = a.1;
        goes_on = subst (λ gs. GoesOn gs y.book y.book)
            (sym (no_gift outcome m n g (λ e. a.0 (sym e)))) (still y.book);
        opening = refl;
      }
    ]

after_leave : (m : ℕ) (w w' : World) → Leaves m w w' → (n : ℕ) (y : Opened)
    → w'.books n ≡ Some y → w.books n ≡ Some y
after_leave m w w' k n y h =
    let there : (with_book m None w).books n ≡ Some y = ap (λ v. v.books n) (sym k.is_world) ∙ h in
    elim (found m n None w y there) [
      | inl a ↦ absurd (no_book y None refl a.1)
      | inr a ↦ a.1
    ]

stayed : (w : World) (n : ℕ) (y : Opened) → w.books n ≡ Some y → Was w [] n y
stayed w n y h = record {
  before = y;
  is_there = h;
  goes_on = still y.book;
  opening = refl;
}

after_begin : (at : Opening) (fuel : ℕ) (w w' : World) → Begins at fuel w w' → (n : ℕ) (y : Opened)
    → w'.books n ≡ Some y → Was w [] n y ⊎ IsFirst w [] n y
after_begin at fuel w w' k n y h =
    let row : Opened = record { book = k.book; opening = Some at } in
    let there : (with_book w.next (Some row) w).books n ≡ Some y =
    ap (λ v. v.books n) (sym k.is_world) ∙ h in
    elim (found w.next n (Some row) w y there) [
      | inl a ↦ inr (subst (IsFirst w [] n) (one_book row y (Some row) refl a.1)
          (record {
            number = a.0;
            nothing = refl;
            entries = k.is_new.entries;
            effect = k.is_new.effect;
          }))
      | inr a ↦ inl (stayed w n y a.1)
    ]

through : (n : ℕ) (y : Opened) (gs : List Given) (m : ℕ) (w between : World)
    → Leaves m w between → Was between gs n y → Was w gs n y
through n y gs m w between k b = record {
  before = b.before;
  is_there = after_leave m w between k n b.before b.is_there;
  goes_on = b.goes_on;
  opening = b.opening;
}

after_event : (p : Program) (w w' : World) (event : Event) → Happens p w event w'
    → (n : ℕ) (y : Opened) → w'.books n ≡ Some y
    → Was w (given_by n event) n y ⊎ IsFirst w (given_by n event) n y
after_event p w w' (submit m leg pass outcome) k n y h =
    inl (after_offer m leg pass outcome w w' k.1 n y h)
after_event p w w' (begin at fuel) k n y h = after_begin at fuel w w' k n y h
after_event p w w' (finish a m leg pass outcome) k n y h =
    inl (through n y (given_by n (submit m leg pass outcome)) a w k.between k.leaves
    (after_offer m leg pass outcome k.between w' k.offers n y h))
after_event p w w' (leave m) k n y h = inl (stayed w n y (after_leave m w w' k n y h))

-- numbers rise
numbers_rise : (p : Program) (w w' : World) (event : Event) → Happens p w event w'
    → w.next ≤ w'.next
numbers_rise p w w' (submit m leg pass outcome) k =
    let e : w'.next ≡ w.next = ap (λ v. v.next) k.1.is_world in omega (arith, e)
numbers_rise p w w' (begin at fuel) k =
    let e : w'.next ≡ w.next + 1 = ap (λ v. v.next) k.is_world in omega (arith, e)
numbers_rise p w w' (finish a m leg pass outcome) k =
    let e : w'.next ≡ k.between.next = ap (λ v. v.next) k.offers.is_world in
    let f : k.between.next ≡ w.next = ap (λ v. v.next) k.leaves.is_world in omega (arith, e, f)
numbers_rise p w w' (leave m) k =
    let e : w'.next ≡ w.next = ap (λ v. v.next) k.is_world in omega (arith, e)

-- no event gives to a book that was never there
apart : (p : Program) (w : World) (m n : ℕ) (x : Opened) → AllGood p w → w.books m ≡ Some x
    → w.next ≤ n → m ≢ n
apart p w m n x good is_there l e =
    let h : m < w.next = (good m x is_there).number in
    let f : ⊥ = omega (arith, h, l, e) in f

nothing_yet : (p : Program) (w w' : World) (event : Event) → AllGood p w → Happens p w event w'
    → (n : ℕ) → w.next ≤ n → given_by n event ≡ []
nothing_yet p w w' (submit m leg pass outcome) good k n l =
    no_gift outcome m n (record { leg = leg; pass = pass })
    (apart p w m n k.1.old good k.1.is_there l)
nothing_yet p w w' (begin at fuel) good k n l = refl
nothing_yet p w w' (finish a m leg pass outcome) good k n l =
    no_gift outcome m n (record { leg = leg; pass = pass })
    (apart p w m n k.offers.old good
    (after_leave a w k.between k.leaves m k.offers.old k.offers.is_there) l)
nothing_yet p w w' (leave m) good k n l = refl

-- ---- what books have by the events so far

record Told (past : List Event) (w : World) : Type 0 where
  entries : (n : ℕ) (x : Opened) → w.books n ≡ Some x
      → x.book.entries ≡ map entry_of (given n past)
  effect : (n : ℕ) (x : Opened) → w.books n ≡ Some x → did x.book ≡ done_by idle (given n past)
  unborn : (n : ℕ) → w.next ≤ n → given n past ≡ []

one_more : (n : ℕ) (past : List Event) (event : Event)
    → given n (past ++ event ∷ []) ≡ given n past ++ given_by n event
one_more n past event =
    given_append n past (event ∷ []) ∙ ap (λ gs. given n past ++ gs) (append-nil (given_by n event))

-- both of a book at once
record Has (gs : List Given) (x : Book) : Type 0 where
  entries : x.entries ≡ map entry_of gs
  effect : did x ≡ done_by idle gs

has_more : (gs hs : List Given) (x y : Book) → Has gs x → GoesOn hs x y → Has (gs ++ hs) y
has_more gs hs x y h g = record {
  entries = g.entries ∙ ap (λ es. es ++ map entry_of hs) h.entries
      ∙ sym (map-append entry_of gs hs);
  effect = g.effect ∙ ap (λ d. done_by d hs) h.effect ∙ sym (done_append idle gs hs);
}

has_none : (gs : List Given) (x : Book) → gs ≡ [] → x.entries ≡ [] → did x ≡ idle → Has gs x
has_none gs x e entries effect =
    subst (λ l. Has l x) (sym e) (record { entries = entries; effect = effect })

has_after : (p : Program) (past : List Event) (w w' : World) (event : Event) → Told past w
    → Happens p w event w' → (n : ℕ) (y : Opened) → w'.books n ≡ Some y
    → Has (given n past ++ given_by n event) y.book
has_after p past w w' event t k n y h =
    elim (after_event p w w' event k n y h) [
      | inl a ↦ has_more (given n past) (given_by n event) a.before.book y.book
          (record {
            entries = t.entries n a.before a.is_there;
            effect = t.effect n a.before a.is_there;
          }) a.goes_on
      | inr a ↦ has_none (given n past ++ given_by n event) y.book
          (ap (λ gs. given n past ++ gs) a.nothing ∙ append-nil (given n past)
          ∙ t.unborn n (let e : n ≡ w.next = a.number in omega (arith, e)))
          a.entries a.effect
    ]

told_after : (p : Program) (past : List Event) (w w' : World) (event : Event) → AllGood p w
    → Told past w → Happens p w event w' → Told (past ++ event ∷ []) w'
told_after p past w w' event good t k = record {
  entries = λ n y h. (has_after p past w w' event t k n y h).entries
      ∙ ap (map entry_of) (sym (one_more n past event));
  effect = λ n y h. (has_after p past w w' event t k n y h).effect
      ∙ ap (done_by idle) (sym (one_more n past event));
  unborn = λ n l.
      let r : w.next ≤ w'.next = numbers_rise p w w' event k in
      let b : w.next ≤ n = omega (arith, r, l) in
      one_more n past event ∙ ap (λ gs. gs ++ given_by n event) (t.unborn n b)
      ∙ nothing_yet p w w' event good k n b;
}

plays_told : (p : Program) → WrittenProgram p → (past events : List Event) (w w' : World)
    → AllGood p w → Told past w → Plays p w events w' → Told (past ++ events) w'
plays_told p written past [] w w' good t k =
    subst (λ es. Told es w') (sym (append-nil past)) (subst (Told past) (sym k) t)
plays_told p written past (event ∷ events) w w' good t k =
    subst (λ es. Told es w') (append_assoc past (event ∷ []) events)
    (plays_told p written (past ++ event ∷ []) events k.0 w'
    (good_after p w k.0 event written good k.1) (told_after p past w k.0 event good t k.1) k.2)

told_start : (p : Program) (o : Origin) (fuel : ℕ) (w : World) → Starts p o fuel w → Told [] w
told_start p o fuel w k = record {
  entries = λ n x h. (has_start p o fuel w k n x h).entries;
  effect = λ n x h. (has_start p o fuel w k n x h).effect;
  unborn = λ n l. refl;
}
  where
    has_start : (p : Program) (o : Origin) (fuel : ℕ) (w : World) (k : Starts p o fuel w) (n : ℕ)
        (x : Opened) → w.books n ≡ Some x → Has [] x.book
    has_start p o fuel w k n x h =
        let root = only k.book in
        let empty : World = record { books = λ m. None; next = 1 } in
        let there : (with_book 0 (Some root) empty).books n ≡ Some x =
        ap (λ v. v.books n) (sym k.is_world) ∙ h in
        elim (found 0 n (Some root) empty x there) [
          | inl a ↦ subst (λ (y : Opened). Has [] y.book) (one_book root x (Some root) refl a.1)
              (record { entries = k.is_new.entries; effect = k.is_new.effect })
          | inr a ↦ absurd (no_book x None refl a.1)
        ]

pub plays_keep : PlaysKeep
plays_keep p o fuel w w' events written start k n x h =
    let good = good_start p o fuel w start in
    let g = plays_good p events w w' written good k n x h in
    let t = plays_told p written [] events w w' good (told_start p o fuel w start) k in
    let from = origin_of x.book in
    record {
      kept = g.kept;
      runs = legs_run p from.inner from.store from.first x.book.term (picks_of x.book.entries)
          (did x.book) g.kept.legs;
      began = g.began;
      attempt = λ opening is.
          let opened = subst (λ o. IfSome o (λ a. WasOpened p a from)) is g.opened in
          kept_is_book p x.book g.kept opened.reached;
      entries = t.entries n x h;
      effect = t.effect n x h;
      own = λ pass. ap (entries_of pass) (t.entries n x h) ∙ own_offers pass n events;
    }

-- ---- from one world to a later one

-- a book that was there has gone on, if it is there
record Since (n : ℕ) (x : Opened) (past : List Event) (w : World) : Type 0 where
  number : n < w.next
  goes_on : (y : Opened) → w.books n ≡ Some y
      → GoesOn (given n past) x.book y.book × (y.opening ≡ x.opening)

since_after : (p : Program) (n : ℕ) (x : Opened) (past : List Event) (w w' : World) (event : Event)
    → Since n x past w → Happens p w event w' → Since n x (past ++ event ∷ []) w'
since_after p n x past w w' event s k = record {
  number =
      let r : w.next ≤ w'.next = numbers_rise p w w' event k in
      let l : n < w.next = s.number in omega (arith, r, l);
  goes_on = λ y h. elim (after_event p w w' event k n y h) [
    | inl a ↦ (
      subst (λ gs. GoesOn gs x.book y.book) (sym (one_more n past event))
          (goes_far (given n past) (given_by n event) x.book a.before.book y.book
          (s.goes_on a.before a.is_there).0 a.goes_on),
      a.opening ∙ (s.goes_on a.before a.is_there).1,
    )
    | inr a ↦ absurd (
        let l : n < w.next = s.number in
        let e : n ≡ w.next = a.number in let f : ⊥ = omega (arith, l, e) in f)
  ];
}

plays_since : (p : Program) (n : ℕ) (x : Opened) (past events : List Event) (w w' : World)
    → Since n x past w → Plays p w events w' → Since n x (past ++ events) w'
plays_since p n x past [] w w' s k =
    subst (λ es. Since n x es w') (sym (append-nil past)) (subst (Since n x past) (sym k) s)
plays_since p n x past (event ∷ events) w w' s k =
    subst (λ es. Since n x es w') (append_assoc past (event ∷ []) events)
    (plays_since p n x (past ++ event ∷ []) events k.0 w' (since_after p n x past w k.0 event s k.1)
    k.2)

since_now : (p : Program) (w : World) (n : ℕ) (x : Opened) → AllGood p w → w.books n ≡ Some x
    → Since n x [] w
since_now p w n x good h = record {
  number = (good n x h).number;
  goes_on = λ y i.
      subst (λ (z : Opened). GoesOn [] x.book z.book × (z.opening ≡ x.opening))
      (one_book x y (w.books n) h i) (still x.book, refl);
}

pub plays_go_on : PlaysGoOn
plays_go_on p o fuel first w w' before events written start k l n x y h i =
    let good = plays_good p before first w written (good_start p o fuel first start) k in
    (plays_since p n x [] events w w' (since_now p w n x good h) l).goes_on y i

pub attempt_is_leg : AttemptIsLeg
attempt_is_leg p o fuel first w w' before n m leg pass outcome written start k l =
    finished_is_leg p n m leg pass outcome w w'
    (plays_good p before first w written (good_start p o fuel first start) k) l

same_store : (x y : Book) → origin_of y ≡ origin_of x → did y ≡ did x → store_of y ≡ store_of x
same_store x y a b = λ i. store_after (a i) (b i)

suits_again : (x y : Book) (leg : Leg) → IsSame x y → did y ≡ did x → Suits x leg → Suits y leg
suits_again x y leg same e s =
    let store = sym (same_store x y same.origin e) in
    record {
      machine = s.machine ∙ ap (λ (o : Origin). o.inner) (sym same.origin);
      affords = subst (λ (n : ℕ). (did y).cost + (effect_of leg.done).cost ≤ n) (sym same.bound)
          (subst (λ (d : Effect). d.cost + (effect_of leg.done).cost ≤ x.most) (sym e) s.affords);
      fits = subst (FitsAll (effect_of leg.done)) store s.fits;
      wakes = λ z. s.wakes (subst (IsAsleep leg.kind) (sym store) z);
    }

pub fresh_leg_suits : FreshLegSuits
fresh_leg_suits p o fuel first w w' before events written start k l n x y leg h i none =
    let g = (plays_go_on p o fuel first w w' before events written start k l n x y h i).0 in
    let s = g.by_none none in
    record {
      stands = s.term;
      fits = λ is_taken.
          subst (FitsAll (effect_of leg.done))
          (sym (same_store x.book y.book g.same.origin s.effect))
          (taken_fits p (store_of x.book) leg is_taken);
      suits = suits_again x.book y.book leg g.same s.effect;
    }

pub submit_is_event : SubmitIsEvent
submit_is_event p w n x new leg pass whole answer there is_leg put same h = (
  is_leg,
  record {
    old = x;
    new = new;
    is_there = there;
    answers = answered whole answer put same h refl;
    is_world = refl;
  },
)

-- ---- the root's book stays

record HasRoot (w : World) : Type 0 where
  book : Book
  is_there : w.books 0 ≡ Some (only book)

root_offered : (m : ℕ) (leg : Leg) (pass : ℕ) (outcome : Outcome) (w w' : World)
    → Offers m leg pass outcome w w' → HasRoot w → HasRoot w'
root_offered m leg pass outcome w w' k r =
    let row = Some (record k.old { book = k.new }) in
    subst HasRoot (sym k.is_world) (elim (is_root m) [
      | inl e ↦ record {
        book = k.new;
        is_there = subst (λ i. (with_book m row w).books i ≡ Some (only k.new)) e
            (here m row w
            ∙ ap (λ o. Some (record { book = k.new; opening = o }))
            (ap (λ (x : Opened). x.opening)
            (one_book k.old (only r.book) (w.books 0)
            (ap w.books (sym e) ∙ k.is_there) r.is_there)));
      }
      | inr d ↦ record {
        book = r.book;
        is_there = elsewhere 0 m row w (λ e. d (sym e)) ∙ r.is_there;
      }
    ])

root_left : (m : ℕ) (w w' : World) → Leaves m w w' → HasRoot w → HasRoot w'
root_left m w w' k r =
    subst HasRoot (sym k.is_world) (elim (is_root m) [
      | inl e ↦ absurd (no_opening k.opening
          (ap (λ (x : Opened). x.opening)
          (one_book (only r.book) k.attempt (w.books 0) r.is_there
          (ap w.books (sym e) ∙ k.is_there)) ∙ k.is_opened))
      | inr d ↦ record {
        book = r.book;
        is_there = elsewhere 0 m None w (λ e. d (sym e)) ∙ r.is_there;
      }
    ])

root_begun : (p : Program) (at : Opening) (fuel : ℕ) (w w' : World) → AllGood p w
    → Begins at fuel w w' → HasRoot w → HasRoot w'
root_begun p at fuel w w' good k r =
    let row : Option Opened = Some (record { book = k.book; opening = Some at }) in
    let l : 0 < w.next = (good 0 (only r.book) r.is_there).number in
    subst HasRoot (sym k.is_world) (record {
      book = r.book;
      is_there = elsewhere 0 w.next row w (λ e. let f : ⊥ = omega (arith, l, e) in f) ∙ r.is_there;
    })

root_after : (p : Program) (w w' : World) (event : Event) → AllGood p w → HasRoot w
    → Happens p w event w' → HasRoot w'
root_after p w w' (submit m leg pass outcome) good r k =
    root_offered m leg pass outcome w w' k.1 r
root_after p w w' (begin at fuel) good r k = root_begun p at fuel w w' good k r
root_after p w w' (finish n m leg pass outcome) good r k =
    root_offered m leg pass outcome k.between w' k.offers (root_left n w k.between k.leaves r)
root_after p w w' (leave n) good r k = root_left n w w' k r

plays_root : (p : Program) → WrittenProgram p → (events : List Event) (w w' : World) → AllGood p w
    → HasRoot w → Plays p w events w' → HasRoot w'
plays_root p written [] w w' good r k = subst HasRoot (sym k) r
plays_root p written (event ∷ events) w w' good r k =
    plays_root p written events k.0 w' (good_after p w k.0 event written good k.1)
    (root_after p w k.0 event good r k.1) k.2

root_start : (p : Program) (o : Origin) (fuel : ℕ) (w : World) (k : Starts p o fuel w)
    → w.books 0 ≡ Some (only k.book)
root_start p o fuel w k = ap (λ v. v.books 0) k.is_world

pub play_is_run : PlayIsRun
play_is_run p fuel w w' events written start k =
    let good = good_start p (root_of p) fuel w start in
    let root = only start.book in
    let there = root_start p (root_of p) fuel w start in
    let end = plays_root p written events w w' good
    (record { book = start.book; is_there = there }) k in
    let x = end.book in
    let row = only x in
    let g = plays_good p events w w' written good k 0 row end.is_there in
    let since = plays_since p 0 root [] events w w' (since_now p w 0 root good there) k in
    let same = (since.goes_on row end.is_there).0.same in
    let origin : root_of p ≡ origin_of x =
    start_origin p (root_of p) fuel w start ∙ sym same.origin in
    let reached = subst (λ (o : Origin). Reached p o.inner o.store o.first) origin
    (at_first refl refl refl) in
    let book = subst (λ o. IsBook p o (picks_of x.entries) (goes x.term) (did x)) (sym origin)
    (kept_is_book p x g.kept reached) in (
      x,
      end.is_there,
      book,
      record { runs = book.runs; bounded = book.bounded },
      subst (λ (n : ℕ). (did x).cost ≤ n) (same.bound ∙ start.is_new.bound) g.kept.affords,
    )
