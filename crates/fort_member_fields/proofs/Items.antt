-- Items of lists.
use Rattle.std.proofs.Common.{◌≡◌, ◌+◌, ◌⊎◌, inl, inr, ℕ, zero, suc, List, [], ◌∷◌, ◌++◌, get_or, length, take, Some, refl, sym, ap, ◌∙◌, arith}
use Rattle.std.specs.List.{slice_get, Contains}
use Rattle.std.proofs.lemmas.List.{take_more}
use Rattle.std.proofs.lemmas.Option.{slice_get_within, slice_get-get_or, get_or_from_slice_get}

pub get_of : {X : Type 0} (xs : List X) (x : X) → Contains xs x
    → (k : ℕ) × (slice_get xs k ≡ Some x)
get_of xs x w = (w.0, slice_get-get_or xs w.0 x w.1 ∙ ap Some w.2)

pub of_get : {X : Type 0} (xs : List X) (k : ℕ) (x : X) → slice_get xs k ≡ Some x → Contains xs x
of_get xs k x e = (k, slice_get_within xs k x e, get_or_from_slice_get xs k x x e)

pub in_none : {X : Type 0} (x : X) → Contains [] x → ⊥
in_none x w = let l = w.1 in omega arith

pub one : {X : Type 0} (xs : List X) (k : ℕ) (x y : X) → slice_get xs k ≡ Some x
    → slice_get xs k ≡ Some y → y ≡ x
one xs k x y p q = cc

-- an item more at the end
pub get_left : {X : Type 0} (xs ys : List X) (k : ℕ) (x : X) → slice_get xs k ≡ Some x
    → slice_get (xs ++ ys) k ≡ Some x
get_left [] ys k x e = absurd cc
get_left (y ∷ xs) ys zero x e = e
get_left (y ∷ xs) ys (suc k) x e = get_left xs ys k x e

pub get_end : {X : Type 0} (xs : List X) (y : X) → slice_get (xs ++ y ∷ []) (length xs) ≡ Some y
get_end [] y = refl
get_end (x ∷ xs) y = get_end xs y

pub get_cases : {X : Type 0} (xs : List X) (y : X) (k : ℕ) (x : X)
    → slice_get (xs ++ y ∷ []) k ≡ Some x → (slice_get xs k ≡ Some x) ⊎ ((k ≡ length xs) × (y ≡ x))
get_cases [] y zero x e = let s : y ≡ x = cc in inr (refl, s)
get_cases [] y (suc k) x e = absurd cc
get_cases (z ∷ xs) y zero x e = inl e
get_cases (z ∷ xs) y (suc k) x e =
    elim (get_cases xs y k x e) as (λ _. (slice_get xs k ≡ Some x)
    ⊎ ((suc k ≡ length (z ∷ xs)) × (y ≡ x))) [ inl f ↦ inl f | inr f ↦ inr (ap suc f.0, f.1) ]

-- ---- the first items

pub taken_more : {X : Type 0} (xs : List X) (i : ℕ) (x : X) → slice_get xs i ≡ Some x
    → take i xs ++ x ∷ [] ≡ take (i + 1) xs
taken_more xs i x e =
    sym (take_more xs i x (slice_get_within xs i x e)
    ∙ ap (λ y. take i xs ++ y ∷ []) (held xs i x e))
  where
    held : {X : Type 0} (xs : List X) (i : ℕ) (x : X) → slice_get xs i ≡ Some x → get_or xs i x ≡ x
    held [] i x e = absurd cc
    held (y ∷ xs) zero x e = cc
    held (y ∷ xs) (suc i) x e = held xs i x e
