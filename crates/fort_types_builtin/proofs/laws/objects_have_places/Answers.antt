use Rattle.std.proofs.Common.{◌≡◌, ◌+◌, ℕ, List, ◌∷◌, refl, arith}
use Rattle.fort_base.specs.declared.ids.Loc.{Loc}
use Rattle.fort_types_builtin.specs.Objects.{location, shapes_from}
use Rattle.fort_types_builtin.specs.Types.{types}
use Rattle.fort_types_builtin.proofs.laws.objects_have_places.Goals as goal

next : (x y : ℕ) {xs ys : List Loc} → x ≡ y → xs ≡ ys → location x ∷ xs ≡ location y ∷ ys
next x y e f = cc

pub returns : goal.returns
unfolding shapes_from types
returns c =
    λ first. next (first) (first + 0) (omega arith)
    (next (first + 1) (first + 1) (omega arith)
    (next (first + 1 + 1) (first + 2) (omega arith)
    (next (first + 1 + 1 + 1) (first + 3) (omega arith)
    (next (first + 1 + 1 + 1 + 1) (first + 4) (omega arith)
    (next (first + 1 + 1 + 1 + 1 + 1) (first + 5) (omega arith)
    (next (first + 1 + 1 + 1 + 1 + 1 + 1) (first + 6) (omega arith)
    (next (first + 1 + 1 + 1 + 1 + 1 + 1 + 1) (first + 7) (omega arith)
    (next (first + 1 + 1 + 1 + 1 + 1 + 1 + 1 + 1) (first + 8) (omega arith)
    (next (first + 1 + 1 + 1 + 1 + 1 + 1 + 1 + 1 + 1) (first + 9) (omega arith) refl)))))))))
