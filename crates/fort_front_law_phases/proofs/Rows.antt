-- Rows of bits that are exact for one relation are the same.
use Rattle.std.proofs.Common.{◌≡◌, ◌<◌, ◌↔◌, ℕ, Bool, true, false, IsTrue, List, [], length, get_or, Some, refl, sym, ap, ◌∙◌, arith}
use Rattle.std.specs.List.{slice_get}
use Rattle.std.specs.Prelude.{unwrap_or, option_and_then}
use Rattle.std.proofs.lemmas.List.{ext_get_or}
use Rattle.std.proofs.lemmas.Option.{slice_get-get_or, unwrap_or-slice_get}
use Rattle.fort_types.specs.Table.{is_set, IsExact}

same_truth : (a b : Bool) → IsTrue a ↔ IsTrue b → a ≡ b
same_truth true true w = refl
same_truth true false w = sym (w.0 refl)
same_truth false true w = w.1 refl
same_truth false false w = refl

-- the bit at a place of a row
at_place : (rows : List (List Bool)) (i j : ℕ) (row : List Bool) → slice_get rows i ≡ Some row
    → is_set rows i j ≡ get_or row j false
at_place rows i j row e =
    ap (λ o. unwrap_or (option_and_then (λ (r : List Bool). slice_get r j) o) false) e
    ∙ unwrap_or-slice_get row j false

module _ (R : ℕ → ℕ → Type 0) (n : ℕ) (xs ys : List (List Bool)) (e : IsExact R n xs)
    (f : IsExact R n ys) where
  same_row : (i : ℕ) → i < n → get_or xs i [] ≡ get_or ys i []
  same_row i l =
      ext_get_or false (get_or xs i []) (get_or ys i []) (e.wide i (get_or xs i []) one
      ∙ sym (f.wide i (get_or ys i []) other))
      (λ j m. bits j (let w = e.wide i (get_or xs i []) one in omega arith))
    where
      one : slice_get xs i ≡ Some (get_or xs i [])
      one = slice_get-get_or xs i [] (let h = e.high in omega arith)

      other : slice_get ys i ≡ Some (get_or ys i [])
      other = slice_get-get_or ys i [] (let h = f.high in omega arith)

      bits : (j : ℕ) → j < n → get_or (get_or xs i []) j false ≡ get_or (get_or ys i []) j false
      bits j m = sym (at_place xs i j (get_or xs i []) one)
          ∙ same_truth (is_set xs i j) (is_set ys i j) (
            λ t. (f.sets i j l m).1 ((e.sets i j l m).0 t),
            λ t. (e.sets i j l m).1 ((f.sets i j l m).0 t),
          )
          ∙ at_place ys i j (get_or ys i []) other

  pub same_rows : xs ≡ ys
  same_rows =
      ext_get_or [] xs ys (e.high ∙ sym f.high) (λ i l. same_row i (let h = e.high in omega arith))
