-- The books of a world, from event to event.
use Rattle.std.proofs.Common.{◌≡◌, ℕ, ◌+◌, ◌<◌, true, List, [], ◌∷◌, Some, None, refl, ap, sym, ◌∙◌, subst, inl, inr, arith}
use Rattle.std.specs.Prelude.{IfSome}
use Rattle.fort_core.specs.declared.program.Program.{Program}
use Rattle.fort_machine.specs.Written.{WrittenProgram}
use Rattle.fort_hall_law_books.specs.Books.{Origin}
use Rattle.fort_hall_books.specs.Books.{origin_of, store_of, IsKept, IsSame}
use Rattle.fort_hall_books.specs.Legs.{IsLegOf}
use Rattle.fort_hall_books.specs.declared.book.Book.{Book}
use Rattle.fort_hall_books.specs.declared.leg.Leg.{Leg}
use Rattle.fort_hall_law_plays.specs.Attempts.{Begins}
use Rattle.fort_hall_law_plays.specs.Offers.{Outcome, Offers}
use Rattle.fort_hall_law_plays.specs.Plays.{Event, submit, begin, finish, leave, Leaves, Finishes, Happens, Plays}
use Rattle.fort_hall_law_plays.specs.Worlds.{Opening, Opened, World, with_book, BeganIn, Starts}
use Rattle.fort_hall_law_plays.proofs.Answered.{answers_kept, answers_go}
use Rattle.fort_hall_law_plays.proofs.Attempts.{opens, WasOpened, whole_is_leg}
use Rattle.fort_hall_law_plays.proofs.Worlds.{one_book, no_book, found}

-- A book of a world is kept, began in a term of a run, and has a number that was given; an
-- attempt's was opened at its form.
pub record Good (p : Program) (n next : ℕ) (x : Opened) : Type 0 where
  pub kept : IsKept p x.book
  pub began : BeganIn p (origin_of x.book)
  pub number : n < next
  pub opened : IfSome x.opening (λ o. WasOpened p o (origin_of x.book))

abbrev pub AllGood : Program → World → Type 0
AllGood p w = (n : ℕ) (x : Opened) → w.books n ≡ Some x → Good p n w.next x

-- the same book later
later : (p : Program) (n next : ℕ) (x : Opened) (y : Book) → Good p n next x → IsSame x.book y
    → IsKept p y → Good p n next (record x { book = y })
later p n next x y g same kept = record {
  kept = kept;
  began = subst (BeganIn p) (sym same.origin) g.began;
  number = g.number;
  opened = subst (λ (o : Origin). IfSome x.opening (λ a. WasOpened p a o)) (sym same.origin)
      g.opened;
}

-- ---- a leg is offered

pub good_offers : (p : Program) (m : ℕ) (leg : Leg) (pass : ℕ) (outcome : Outcome) (w w' : World)
    → AllGood p w → IsLegOf p leg → Offers m leg pass outcome w w' → AllGood p w'
good_offers p m leg pass outcome w w' good is_leg k n y h =
    let x = Some (record k.old { book = k.new }) in
    let g = good m k.old k.is_there in
    let there : (with_book m x w).books n ≡ Some y = ap (λ v. v.books n) (sym k.is_world) ∙ h in
    subst (λ v. Good p n v.next y) (sym k.is_world)
    (elim (found m n x w y there) [
      | inl a ↦ subst (λ i. Good p i w.next y) (sym a.0)
          (subst (Good p m w.next) (one_book (record k.old { book = k.new }) y x refl a.1)
          (later p m w.next k.old k.new g
          (answers_go leg pass k.old.book k.new outcome k.answers).same
          (answers_kept p leg pass k.old.book k.new outcome g.kept is_leg k.answers)))
      | inr a ↦ good n y a.1
    ])

-- ---- an attempt goes

pub good_leaves : (p : Program) (m : ℕ) (w w' : World) → AllGood p w → Leaves m w w'
    → AllGood p w'
good_leaves p m w w' good k n y h =
    let there : (with_book m None w).books n ≡ Some y = ap (λ v. v.books n) (sym k.is_world) ∙ h in
    subst (λ v. Good p n v.next y) (sym k.is_world)
    (elim (found m n None w y there) [
      | inl a ↦ absurd (no_book y None refl a.1)
      | inr a ↦ good n y a.1
    ])

-- an attempt that has ended is a leg
pub finished_is_leg : (p : Program) (n m : ℕ) (leg : Leg) (pass : ℕ) (outcome : Outcome)
    (w w' : World) → AllGood p w → Finishes p n m leg pass outcome w w' → IsLegOf p leg
finished_is_leg p n m leg pass outcome w w' good k =
    let g = good n k.leaves.attempt k.leaves.is_there in
    whole_is_leg p k.leaves.attempt.book k.leaves.opening leg
    (subst (λ o. IfSome o (λ a. WasOpened p a (origin_of k.leaves.attempt.book))) k.leaves.is_opened
    g.opened) g.kept k.is_whole

-- ---- an attempt is opened

new_origin : (p : Program) (at : Opening) (fuel : ℕ) (w w' : World) (k : Begins at fuel w w')
    → record { inner = true; store = store_of k.outer.book; first = k.body } ≡ origin_of k.book
new_origin p at fuel w w' k =
    sym (k.is_new.origin
    ∙ ap (λ s. record { inner = true; store = s; first = k.body }) k.is_store)

good_new : (p : Program) (at : Opening) (fuel : ℕ) (w w' : World) → WrittenProgram p → AllGood p w
    → (k : Begins at fuel w w')
    → Good p w.next (w.next + 1) (record { book = k.book; opening = Some at })
good_new p at fuel w w' written good k =
    let g = good at.book k.outer k.is_there in
    let o = opens p written k.outer.book at k.body g.began g.kept k.stands k.is_form in
    record {
      kept = k.is_new.kept p;
      began = subst (BeganIn p) (new_origin p at fuel w w' k)
          (record { around = []; reached = o.reached; through = refl; unmarked = o.unmarked });
      number = omega arith;
      opened = subst (WasOpened p at) (new_origin p at fuel w w' k)
          (record {
            inner = refl;
            reached = o.reached;
            unmarked = k.stands.unmarked;
            is_part = k.stands.is_part;
            through = k.stands.through;
            is_form = k.is_form;
            bare = o.bare;
          });
    }

higher : (p : Program) (n : ℕ) (next : ℕ) (x : Opened) → Good p n next x → Good p n (next + 1) x
higher p n next x g = record {
  kept = g.kept;
  began = g.began;
  number = let h : n < next = g.number in omega arith;
  opened = g.opened;
}

pub good_begins : (p : Program) (at : Opening) (fuel : ℕ) (w w' : World) → WrittenProgram p
    → AllGood p w → Begins at fuel w w' → AllGood p w'
good_begins p at fuel w w' written good k n y h =
    let x = Some (record { book = k.book; opening = Some at }) in
    let there : (with_book w.next x w).books n ≡ Some y = ap (λ v. v.books n) (sym k.is_world) ∙ h
    in subst (λ v. Good p n v.next y) (sym k.is_world)
    (elim (found w.next n x w y there) [
      | inl a ↦ subst (λ i. Good p i (w.next + 1) y) (sym a.0)
          (subst (Good p w.next (w.next + 1))
          (one_book (record { book = k.book; opening = Some at }) y x refl a.1)
          (good_new p at fuel w w' written good k))
      | inr a ↦ higher p n w.next y (good n y a.1)
    ])

-- ---- any event

pub good_after : (p : Program) (w w' : World) (event : Event) → WrittenProgram p → AllGood p w
    → Happens p w event w' → AllGood p w'
good_after p w w' (submit m leg pass outcome) written good k =
    good_offers p m leg pass outcome w w' good k.0 k.1
good_after p w w' (begin at fuel) written good k = good_begins p at fuel w w' written good k
good_after p w w' (finish n m leg pass outcome) written good k =
    good_offers p m leg pass outcome k.between w' (good_leaves p n w k.between good k.leaves)
    (finished_is_leg p n m leg pass outcome w w' good k) k.offers
good_after p w w' (leave n) written good k = good_leaves p n w w' good k

pub plays_good : (p : Program) (events : List Event) (w w' : World) → WrittenProgram p
    → AllGood p w → Plays p w events w' → AllGood p w'
plays_good p [] w w' written good k = subst (AllGood p) (sym k) good
plays_good p (event ∷ events) w w' written good k =
    plays_good p events k.0 w' written (good_after p w k.0 event written good k.1) k.2

-- ---- the beginning

pub start_origin : (p : Program) (o : Origin) (fuel : ℕ) (w : World) (k : Starts p o fuel w)
    → o ≡ origin_of k.book
start_origin p o fuel w k =
    sym (k.is_new.origin
    ∙ ap (λ s. record { inner = o.inner; store = s; first = o.first }) k.is_store)

pub good_start : (p : Program) (o : Origin) (fuel : ℕ) (w : World) → Starts p o fuel w → AllGood p w
good_start p o fuel w k n y h =
    let root = Some (record { book = k.book; opening = None }) in
    let empty : World = record { books = λ m. None; next = 1 } in
    let there : (with_book 0 root empty).books n ≡ Some y = ap (λ v. v.books n) (sym k.is_world) ∙ h
    in subst (λ v. Good p n v.next y) (sym k.is_world)
    (elim (found 0 n root empty y there) [
      | inl a ↦ subst (λ i. Good p i 1 y) (sym a.0)
          (subst (Good p 0 1) (one_book (record { book = k.book; opening = None }) y root refl a.1)
          (record {
            kept = k.is_new.kept p;
            began = subst (BeganIn p) (start_origin p o fuel w k) k.began;
            number = omega arith;
            opened = tt;
          }))
      | inr a ↦ absurd (no_book y None refl a.1)
    ])
