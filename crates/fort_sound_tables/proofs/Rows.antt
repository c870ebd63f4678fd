-- Rows of types, and how a run begins, from what single lookups say.
use Rattle.std.proofs.Common.{◌≡◌, ℕ, ◌+◌, ◌<◌, ◌≤◌, Bool, true, false, List, length, Option, Some, ap, sym, ◌∙◌, subst, ◌⊎◌, inl, inr, arith}
use Rattle.std.specs.Prelude.{slice_get, unwrap_or, option_and_then}
use Rattle.std.proofs.lemmas.Bool.{cases_lt}
use Rattle.std.proofs.lemmas.Option.{slice_get_past}
use Rattle.fort_types.specs.Table.{is_set}

-- a place of a row
pub row_at : (rows : List (List Bool)) (i j : ℕ) (row : List Bool) → slice_get rows i ≡ Some row
    → is_set rows i j ≡ unwrap_or (slice_get row j) false
row_at rows i j row e =
    ap (λ (o : Option (List Bool)). unwrap_or (option_and_then (λ row. slice_get row j) o) false) e

row_past : (rows : List (List Bool)) (i j : ℕ) → length rows ≤ i → is_set rows i j ≡ false
row_past rows i j l =
    ap (λ (o : Option (List Bool)). unwrap_or (option_and_then (λ row. slice_get row j) o) false)
    (slice_get_past rows i l)

-- no row but one has a place set, up to a row
abbrev pub Only : List (List Bool) → ℕ → ℕ → Type 0
Only rows j n = (k : ℕ) → k < n → is_set rows k j ≡ true → k ≡ j

pub only_more : (rows : List (List Bool)) (j n : ℕ) → Only rows j n
    → (is_set rows n j ≡ true → n ≡ j) → Only rows j (n + 1)
only_more rows j n h e k l s = go (cases_lt k n)
  where
    go : (k < n) ⊎ (n ≤ k) → k ≡ j
    go (inl q) = h k q s
    go (inr q) =
        let w : n ≡ k = omega (arith, l, q) in
        subst (λ m. m ≡ j) w (e (subst (λ m. is_set rows m j ≡ true) (sym w) s))

pub only_all : (rows : List (List Bool)) (j : ℕ) → Only rows j (length rows) → (k : ℕ)
    → is_set rows k j ≡ true → k ≡ j
only_all rows j h k s = go (cases_lt k (length rows))
  where
    go : (k < length rows) ⊎ (length rows ≤ k) → k ≡ j
    go (inl q) = h k q s
    go (inr q) = let z : false ≡ true = sym (row_past rows k j q) ∙ s in absurd cc
