-- Items of lists.
use Rattle.std.proofs.Common.{◌≡◌, ◌<◌, ◌⊎◌, inl, inr, ℕ, zero, suc, List, [], ◌∷◌, ◌++◌, length, Some, refl, ap, subst, arith}
use Rattle.std.specs.List.{slice_get, AllByRecursion}

pub item_at : {X : Type 0} (xs : List X) (k : ℕ) → k < length xs
    → (x : X) × (slice_get xs k ≡ Some x)
item_at [] k l = absurd (omega arith)
item_at (x ∷ xs) zero l = (x, refl)
item_at (x ∷ xs) (suc k) l = item_at xs k (omega arith)

-- an item of a list with one more at its end
pub with_last : {X : Type 0} (xs : List X) (y : X) (k : ℕ) (x : X)
    → slice_get (xs ++ y ∷ []) k ≡ Some x → (slice_get xs k ≡ Some x) ⊎ ((k ≡ length xs) × (y ≡ x))
with_last [] y zero x e = let s : y ≡ x = cc in inr (refl, s)
with_last [] y (suc k) x e = absurd cc
with_last (z ∷ xs) y zero x e = inl e
with_last (z ∷ xs) y (suc k) x e =
    elim (with_last xs y k x e) as (λ _. (slice_get xs k ≡ Some x)
    ⊎ ((suc k ≡ length (z ∷ xs)) × (y ≡ x))) [ inl f ↦ inl f | inr f ↦ inr (ap suc f.0, f.1) ]

-- ---- what holds of all items

pub all_both : {X : Type 0} (P : X → Type 0) (xs ys : List X) → AllByRecursion P xs
    → AllByRecursion P ys → AllByRecursion P (xs ++ ys)
all_both P [] ys a b = b
all_both P (x ∷ xs) ys a b = (a.0, all_both P xs ys a.1 b)

pub all_as : {X : Type 0} (P Q : X → Type 0) → ((x : X) → P x → Q x) → (xs : List X)
    → AllByRecursion P xs → AllByRecursion Q xs
all_as P Q f [] a = tt
all_as P Q f (x ∷ xs) a = (f x a.0, all_as P Q f xs a.1)

pub all_at : {X : Type 0} (P : X → Type 0) (xs : List X) → AllByRecursion P xs → (k : ℕ) (x : X)
    → slice_get xs k ≡ Some x → P x
all_at P [] a k x e = absurd cc
all_at P (y ∷ xs) a zero x e = let q : y ≡ x = cc in subst P q a.0
all_at P (y ∷ xs) a (suc k) x e = all_at P xs a.1 k x e
