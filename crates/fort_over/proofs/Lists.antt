-- The item that a loop is at, and where a loop ends.
use Rattle.std.proofs.Common.{◌≡◌, ◌<◌, ℕ, List, Some, length, refl, subst}
use Rattle.std.specs.List.{slice_get}
use Rattle.std.specs.Prelude.{get_or}
use Rattle.std.proofs.lemmas.Option.{slice_get_read}

pub at_item : {X : Type 0} (xs ys : List X) (i : ℕ) (x : X) → xs ≡ ys → i < length xs
    → x ≡ get_or xs i x → slice_get ys i ≡ Some x
at_item xs ys i x e l f =
    subst (λ z. slice_get z i ≡ Some x) e (slice_get_read xs (length xs) i x refl l f)
