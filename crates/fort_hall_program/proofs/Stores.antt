-- The store at hand.
use Rattle.std.proofs.Common.{◌≡◌, ℕ, ◌+◌, ◌<◌, ◌≤◌, Bool, [], Some, refl, ap, sym, ◌∙◌, subst, arith}
use Rattle.std.specs.Prelude.{◌^◌, IfSome}
use Rattle.fort_core.specs.declared.program.Program.{Program}
use Rattle.fort_core.specs.declared.term.Term.{Term}
use Rattle.fort_machine.specs.Effects.{Effect, idle, afterwards}
use Rattle.fort_disp.specs.declared.rows.Tables.{Tables}
use Rattle.fort_store_effects.specs.Again.{only_store, silent}
use Rattle.fort_store_effects.specs.Calls.{Adds}
use Rattle.fort_store_effects.specs.Levels.{Levels, levels_of, seen, spent, added}
use Rattle.fort_store_effects.specs.declared.layers.Layers.{Layers}
use Rattle.fort_hall_law_books.specs.Books.{Origin}
use Rattle.fort_hall_books.specs.Books.{did, origin_of, store_of, IsKept, IsNew}
use Rattle.fort_hall_books.specs.declared.book.Book.{Book}
use Rattle.fort_hall_program.specs.Machines.{IsMachine}
use Rattle.fort_hall_program.specs.States.{IsBookOf, IsNewBook, StandsIn}
use Rattle.fort_hall_program.specs.declared.book.TaskBook.{TaskBook}

-- nothing was done in a new book
pub idle_new : (inner : Bool) (view : Layers) (first : Term) (x : Book) → did x ≡ idle
    → origin_of x ≡ record { inner = inner; store = seen (levels_of view); first = first }
    → store_of x ≡ seen (levels_of view)
idle_new inner view first x d o =
    ap (λ (e : Effect). afterwards e (origin_of x).store) d ∙ ap (λ z. z.store) o

-- a new book with the store at hand
pub new_task_book : (inner : Bool) (view : Layers) (first : Term) (most : ℕ) (x : TaskBook)
    (v now : Layers) → IsNew inner view first most x.book → x.at_hand ≡ Some now → v ≡ view
    → levels_of now ≡ only_store (seen (levels_of v)) → IsNewBook inner view first most x
new_task_book inner view first most x v now new here same at = record {
  origin = new.origin;
  bound = new.bound;
  entries = new.entries;
  kept = new.kept;
  now = subst (λ o. IfSome o (λ l. levels_of l ≡ only_store (store_of x.book))) (sym here) (
      at ∙ ap (λ w. only_store (seen (levels_of w))) same
      ∙ ap only_store (sym (idle_new inner view first x.book new.effect new.origin))
      );
}

-- a silent effect costs nothing, and a store alone has paid nothing
pub room_alone : (d : Effect) (v : Levels) → d ≡ silent d → v ≡ only_store (seen v)
    → spent v + d.cost < 2 ^ 64
room_alone d v q h =
    let free : d.cost ≡ 0 = ap (λ (e : Effect). e.cost) q in
    let unpaid : spent v ≡ 0 = ap spent h in
    omega (arith, free, unpaid)

-- a silent effect does to a store alone what it does
pub silent_after : (d : Effect) (v w : Levels) → d ≡ silent d → v ≡ only_store (seen v)
    → Adds d v w → w ≡ only_store (afterwards d (seen v))
silent_after d v w q h a =
    a.is_new ∙ (ap (added d) h ∙ ap (λ (e : Effect). added e (only_store (seen v))) q)

-- a book that is where it was, with the same store at hand
pub still_kept : (p : Program) (most : ℕ) (x y : TaskBook) → IsBookOf p most x → y.book ≡ x.book
    → IfSome y.at_hand (λ l. levels_of l ≡ only_store (store_of x.book)) → IsBookOf p most y
still_kept p most x y k same now = record {
  kept = subst (IsKept p) (sym same) k.kept;
  within = subst (λ (b : Book). b.most ≤ most) (sym same) k.within;
  stands = subst (λ b. StandsIn p (origin_of b)) (sym same) k.stands;
  now = subst (λ b. IfSome y.at_hand (λ l. levels_of l ≡ only_store (store_of b))) (sym same) now;
}

-- no attempt is open over the store at hand
pub none_open : (p : Program) (most : ℕ) (x : TaskBook) (now : Layers) → IsBookOf p most x
    → x.at_hand ≡ Some now → (levels_of now).attempts ≡ []
none_open p most x now k is =
    let at : levels_of now ≡ only_store (store_of x.book) =
    subst (λ o. IfSome o (λ l. levels_of l ≡ only_store (store_of x.book))) is k.now in
    ap (λ (v : Levels). v.attempts) at

-- the store at hand is shared off
pub shared_off : (p : Program) (most : ℕ) (x : TaskBook) (now after : Layers) → IsBookOf p most x
    → x.at_hand ≡ Some now → levels_of after ≡ levels_of now
    → IsBookOf p most (record x { at_hand = Some after })
shared_off p most x now after k is same =
    let at : levels_of now ≡ only_store (store_of x.book) =
    subst (λ o. IfSome o (λ l. levels_of l ≡ only_store (store_of x.book))) is k.now in
    still_kept p most x (record x { at_hand = Some after }) k refl (same ∙ at)

-- a new book whose origin stands in a term of a run
pub new_kept : (p : Program) (most : ℕ) (inner : Bool) (view : Layers) (first : Term) (own : ℕ)
    (x : TaskBook) → IsNewBook inner view first own x → own ≤ most
    → StandsIn p (record { inner = inner; store = seen (levels_of view); first = first })
    → IsBookOf p most x
new_kept p most inner view first own x new may stands = record {
  kept = new.kept p;
  within = subst (λ (c : ℕ). c ≤ most) (sym new.bound) may;
  stands = subst (StandsIn p) (sym new.origin) stands;
  now = new.now;
}

-- the root's book of a machine
pub root_kept : (p : Program) (start : Origin) (most : ℕ) (tables : Tables) (inner : Bool)
    (view : Layers) (first : Term) (bound : ℕ) (x : TaskBook)
    → IsMachine p start most tables inner view first bound → IsNewBook inner view first bound x
    → IsBookOf p most x
root_kept p start most tables inner view first bound x m new =
    new_kept p most inner view first bound x new (omega (arith, m.is_bound))
    (subst (StandsIn p) m.is_start m.stands)
