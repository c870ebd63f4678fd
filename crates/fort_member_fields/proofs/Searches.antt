-- Searches through a list: none of the first ones has a property, or some item has it.
use Rattle.std.proofs.Common.{◌≡◌, ◌<◌, ◌≤◌, ◌+◌, ◌⊎◌, inl, inr, ◌↔◌, ℕ, true, false, IsTrue, List, length, Some, refl, subst, arith}
use Rattle.std.specs.List.{slice_get}
use Rattle.std.proofs.lemmas.Option.{slice_get_within}
use Rattle.fort_member_fields.specs.Walks.{SomeIn}

-- None of the first items has the property.
abbrev pub NoneTo : {X : Type 0} → (X → Type 0) → List X → ℕ → Type 0
NoneTo {X} P xs to = (k : ℕ) (x : X) → k < to → slice_get xs k ≡ Some x → P x → ⊥

near : (j n : ℕ) → j < n + 1 → (j < n) ⊎ (j ≡ n)
near j n b = grind arith

one : {X : Type 0} (xs : List X) (k : ℕ) (x y : X) → slice_get xs k ≡ Some x
    → slice_get xs k ≡ Some y → y ≡ x
one xs k x y p q = cc

pub none_first : {X : Type 0} (P : X → Type 0) (xs : List X) → NoneTo P xs 0
none_first P xs k x l e p = omega arith

pub none_more : {X : Type 0} (P : X → Type 0) (xs : List X) (i : ℕ) (x : X)
    → slice_get xs i ≡ Some x → (P x → ⊥) → NoneTo P xs i → NoneTo P xs (i + 1)
none_more P xs i x e n h k y l f p = elim (near k i l) as (λ _. ⊥) [
  | inl m ↦ h k y m f p
  | inr q ↦ n (subst P (one xs i x y e (subst (λ z. slice_get xs z ≡ Some y) q f)) p)
]

-- what a loop answers: that it found one, or that it came to the end
pub found_told : {X : Type 0} (P : X → Type 0) (xs : List X) (i : ℕ) (x : X)
    → slice_get xs i ≡ Some x → P x → IsTrue true ↔ SomeIn P xs
found_told P xs i x e p = (λ _. (i, x, e, p), λ _. refl)

pub none_told : {X : Type 0} (P : X → Type 0) (xs : List X) (i : ℕ) → length xs ≤ i → NoneTo P xs i
    → IsTrue false ↔ SomeIn P xs
none_told P xs i l h = (
  λ e. let f : false ≡ true = e
      in absurd cc,
  λ w. absurd (h w.0 w.1 (let m = slice_get_within xs w.0 w.1 w.2 in omega arith) w.2 w.3),
)
