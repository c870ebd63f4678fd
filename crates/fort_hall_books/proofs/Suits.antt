-- Whether a leg suits a book.
use Rattle.std.proofs.Common.{◌≡◌, ◌↔◌, ◌+◌, ◌≤◌, Bool, Some, sym, subst, arith}
use Rattle.std.specs.Prelude.{IsTrue}
use Rattle.fort_machine.specs.Effects.{Store}
use Rattle.fort_machine.specs.Marked.{Marks}
use Rattle.fort_store_effects.specs.Levels.{effect_of}
use Rattle.fort_hall_books.specs.Answers.{IsAsleep, HasCause}
use Rattle.fort_hall_books.specs.declared.book.Book.{Book}
use Rattle.fort_hall_books.specs.declared.leg.Cause.TheVariants as cause
use Rattle.fort_hall_books.specs.declared.leg.Kind.{Kind}
use Rattle.fort_hall_books.specs.declared.leg.Kind.TheVariants as kind
use Rattle.fort_hall_books.specs.declared.leg.Leg.{Leg}
use Rattle.fort_hall_books.specs.Legs.{AllThere}

pub too_dear : (x : Book) (leg : Leg)
    → ((effect_of x.done).cost + (effect_of leg.done).cost ≤ x.most → ⊥)
    → HasCause x leg cause.Cost
too_dear x leg n = omega (arith, n)

pub asleep_is : (k : Kind) (ms : Marks) (s : Store) (b : Bool) → k ≡ kind.Attempt (Some ms)
    → (IsTrue b ↔ AllThere s ms) → (IsTrue b ↔ IsAsleep k s)
asleep_is k ms s b e h = subst (λ (y : Kind). IsTrue b ↔ IsAsleep y s) (sym e) h
