-- A book that is closed at its end.
use Rattle.std.proofs.Common.{◌≡◌, ℕ, ◌≤◌, Bool, ap, sym, ◌∙◌, subst, arith}
use Rattle.fort_core.specs.declared.program.Program.{Program}
use Rattle.fort_store_effects.specs.Levels.{effect_of, levels_of, seen}
use Rattle.fort_machine.specs.Effects.{Effect}
use Rattle.fort_port_output.specs.Written.{Change, Writes}
use Rattle.fort_port_output.specs.declared.progress.Progress.{Progress}
use Rattle.fort_hall.specs.Gathered.{Counts}
use Rattle.fort_hall_law_books.specs.Books.{Origin}
use Rattle.fort_hall_law_books.specs.Legs.{Legs}
use Rattle.fort_hall_books.specs.Books.{did, origin_of, IsClosed, IsKept}
use Rattle.fort_hall_books.specs.declared.book.Closed.{Closed}
use Rattle.fort_hall_program.specs.States.{IsBookOf, pass_of}
use Rattle.fort_hall_program.specs.declared.book.TaskBook.{TaskBook}
use Rattle.fort_hall_legs.specs.Made.{IsMadeBy}
use Rattle.fort_hall_legs.specs.declared.legs.HallLegs.{HallLegs}

pub made : (p : Program) (o : Origin) (most : ℕ) (b : TaskBook) (x : HallLegs)
    → IsClosed p b.book x.closed → b.book.most ≤ most → origin_of b.book ≡ o
    → Counts (λ (y : TaskBook). y.book.entries) pass_of x.legs.items b
    → IsMadeBy p o most x
made p o most b x closed within same counts = record {
  entries = b.book.entries;
  picks = closed.picks;
  counts = record { own = counts.own; zero = counts.zero; others = counts.others };
  legs =
      subst (λ (y : Origin). Legs p y.inner y.store y.first x.closed.picks x.closed.term
      (effect_of x.closed.done))
      (ap (λ v. record {
        inner = b.book.inner;
        store = seen (levels_of v);
        first = b.book.first;
      }) closed.view ∙ same) closed.legs;
  affords = omega (arith, closed.affords, within);
  bounded = closed.bounded;
}

-- the book that a hall hands out is kept, as the caller names its program
pub kept_own : (p q : Program) (most : ℕ) (b : TaskBook) → q ≡ p → IsBookOf p most b
    → IsKept q b.book
kept_own p q most b same k = subst (λ (r : Program). IsKept r b.book) (sym same) k.kept

pub made_own : (p q : Program) (o : Origin) (most : ℕ) (b : TaskBook) (x : HallLegs) → q ≡ p
    → IsBookOf p most b → origin_of b.book ≡ o → IsClosed q b.book x.closed
    → Counts (λ (y : TaskBook). y.book.entries) pass_of x.legs.items b
    → IsMadeBy p o most x
made_own p q o most b x same k began closed counts =
    made p o most b x (subst (λ (r : Program). IsClosed r b.book x.closed) same closed) k.within
    began counts

-- what was written of the book's output was written of what is handed out
pub writes_closed : (failed : Bool) (ready : Type 0) (sink : Change) (q : Program) (b : TaskBook)
    (c : Closed) (progress : Progress) → IsClosed q b.book c
    → Writes failed ready sink (did b.book).output progress
    → Writes failed ready sink (effect_of c.done).output progress
writes_closed failed ready sink q b c progress closed written =
    subst (λ (e : Effect). Writes failed ready sink e.output progress) (sym closed.done) written
