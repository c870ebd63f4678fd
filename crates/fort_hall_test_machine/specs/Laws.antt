-- What is printed goes on as the legs do.
use Rattle.std.proofs.Common.{◌≡◌, List, [], ◌∷◌, ◌++◌, refl, ap, sym, ◌∙◌}
use mathlib.Core.List.{IsPrefix}
use Rattle.fort_hall_test_machine.specs.declared.book.Entry.{Entry}
use Rattle.fort_hall_test_machine.specs.Runs.{letter, letters}

pub letters_append : (xs ys : List Entry) → letters (xs ++ ys) ≡ letters xs ++ letters ys
letters_append [] ys = refl
letters_append (x ∷ xs) ys = ap (λ r. letter x ∷ r) (letters_append xs ys)

pub letters_grow : (xs ys : List Entry) → IsPrefix xs ys → IsPrefix (letters xs) (letters ys)
letters_grow xs ys p = (letters p.0, sym (letters_append xs p.0) ∙ ap letters p.1)
