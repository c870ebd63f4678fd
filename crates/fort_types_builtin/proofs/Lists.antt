-- Items of mapped and dropped lists.
use Rattle.std.proofs.Common.{◌≡◌, ◌+◌, ℕ, zero, suc, List, [], ◌∷◌, ◌++◌, get_or, map, drop, Some, sym, ap, ◌∙◌, arith}
use Rattle.std.specs.List.{slice_get}

pub get_mapped : {X Y : Type 0} (f : X → Y) (xs : List X) (n : ℕ) (x : X) → slice_get xs n ≡ Some x
    → slice_get (map f xs) n ≡ Some (f x)
get_mapped f [] n x e = absurd cc
get_mapped f (y ∷ xs) zero x e = let s : y ≡ x = cc in ap (λ z. Some (f z)) s
get_mapped f (y ∷ xs) (suc n) x e = get_mapped f xs n x e

pub get_front : (xs : List (List ℕ)) (y : List ℕ) (n : ℕ) (x : List ℕ) → slice_get xs n ≡ Some x
    → get_or (xs ++ y ∷ []) n [] ≡ x
get_front [] y n x e = absurd cc
get_front (z ∷ xs) y zero x e = let s : z ≡ x = cc in s
get_front (z ∷ xs) y (suc n) x e = get_front xs y n x e

pub get_dropped : {X : Type 0} (xs : List X) (k n m : ℕ) (x : X) → m ≡ k + n
    → slice_get xs m ≡ Some x → slice_get (drop k xs) n ≡ Some x
get_dropped xs zero n m x q e = let p : m ≡ n = omega arith in ap (slice_get xs) (sym p) ∙ e
get_dropped [] (suc k) n m x q e = absurd cc
get_dropped (y ∷ xs) (suc k) n zero x q e = absurd (omega arith)
get_dropped (y ∷ xs) (suc k) n (suc m) x q e = get_dropped xs k n m x (omega arith) e
