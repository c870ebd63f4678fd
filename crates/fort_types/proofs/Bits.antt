-- Facts on a square of bits.
use Rattle.std.proofs.Common.{◌≡◌, ◌<◌, ◌≤◌, ◌⊎◌, inl, inr, ◌↔◌, ℕ, zero, suc, Bool, true, false, IsTrue, List, [], ◌∷◌, ◌++◌, length, get_or, Some, refl, sym, ap, ◌∙◌, arith}
use Rattle.std.specs.List.{slice_get}
use Rattle.std.specs.Prelude.{replicate}
use Rattle.std.proofs.lemmas.Option.{slice_get_within, get_or_from_slice_get, unwrap_or-slice_get}
use Rattle.fort_types.specs.Table.{is_set, IsExact}
use Rattle.fort_types.specs.Square.{Bits, Bit, bit, Sized, IsBlank, blank_row}

-- the two ways of reading a bit
pub bit_is_set : (rows : Bits) (i j : ℕ) → is_set rows i j ≡ bit rows i j
bit_is_set [] i j = refl
bit_is_set (row ∷ rows) zero j = unwrap_or-slice_get row j false
bit_is_set (row ∷ rows) (suc i) j = bit_is_set rows i j

get_or-same : {X : Type 0} (n : ℕ) (x d : X) (i : ℕ) → i < n → get_or (replicate n x) i d ≡ x
get_or-same zero x d i h = absurd (omega arith)
get_or-same (suc n) x d zero h = refl
get_or-same (suc n) x d (suc i) h = get_or-same n x d i (omega arith)

get_or-default : {X : Type 0} (n : ℕ) (d : X) (i : ℕ) → get_or (replicate n d) i d ≡ d
get_or-default zero d i = refl
get_or-default (suc n) d zero = refl
get_or-default (suc n) d (suc i) = get_or-default n d i

pub length-same : {X : Type 0} (n : ℕ) (x : X) → length (replicate n x) ≡ n
length-same zero x = refl
length-same (suc n) x = let e = length-same n x in omega arith

pub replicate_push : {X : Type 0} (n : ℕ) (x : X) → replicate n x ++ x ∷ [] ≡ replicate (suc n) x
replicate_push zero x = refl
replicate_push (suc n) x = ap (λ l. x ∷ l) (replicate_push n x)

cases_lt : (i n : ℕ) → (i < n) ⊎ (n ≤ i)
cases_lt i n = grind arith

past : {X : Type 0} (n : ℕ) (x d : X) (i : ℕ) → n ≤ i → get_or (replicate n x) i d ≡ d
past zero x d i h = refl
past (suc n) x d zero h = absurd (omega arith)
past (suc n) x d (suc i) h = past n x d i (omega arith)

blank_bits : (n i j : ℕ) → bit (replicate n (blank_row n)) i j ≡ false
blank_bits n i j =
    elim (cases_lt i n) as (λ _. get_or (get_or (replicate n (blank_row n)) i []) j false ≡ false) [
      | inl h ↦
          ap (λ l. get_or l j false) (get_or-same n (blank_row n) [] i h) ∙ get_or-default n false j
      | inr h ↦ ap (λ l. get_or l j false) (past n (blank_row n) [] i h)
    ]

pub blank_square : (n : ℕ) → IsBlank n (replicate n (blank_row n))
blank_square n = record {
  sized = record {
    high = length-same n (blank_row n);
    wide = λ i h. ap length (get_or-same n (blank_row n) [] i h) ∙ length-same n false;
  };
  unmarked = blank_bits n;
}

-- a bit that is set stands in the square
pub bit_inside : (rows : Bits) (i j : ℕ) → Bit rows i j → i < length rows
bit_inside [] i j e = absurd (let f : false ≡ true = e in cc)
bit_inside (row ∷ rows) zero j e = omega arith
bit_inside (row ∷ rows) (suc i) j e = let l = bit_inside rows i j e in omega arith

-- a square of the right size whose bits are the relation
pub exact : (R : ℕ → ℕ → Type 0) (n : ℕ) (rows : Bits) → Sized n rows
    → ((i j : ℕ) → i < n → j < n → Bit rows i j ↔ R i j) → IsExact R n rows
exact R n rows s w = record {
  high = s.high;
  wide = λ i row e. let l = slice_get_within rows i row e in let m = s.high
      in let f : get_or rows i [] ≡ row = get_or_from_slice_get rows i row [] e in
      sym (ap length f) ∙ s.wide i (omega arith);
  sets = λ i j k l. (
    λ e. (w i j k l).0 (sym (bit_is_set rows i j) ∙ e),
    λ r. bit_is_set rows i j
        ∙ (w i j k l).1 r,
  );
}

-- out of a square no bit is set
pub set_inside : (rows : Bits) (i j n : ℕ)
    → ((k : ℕ) (row : List Bool) → slice_get rows k ≡ Some row → length row ≡ n)
    → IsTrue (is_set rows i j)
    → (i < length rows) × (j < n)
set_inside rows i j n w e =
    let f : bit rows i j ≡ true = sym (bit_is_set rows i j) ∙ e in let l = bit_inside rows i j f
    in (l, within rows i j n w e)
  where
    row_inside : (row : List Bool) (j : ℕ) → get_or row j false ≡ true → j < length row
    row_inside [] j e = absurd (let f : false ≡ true = e in cc)
    row_inside (b ∷ row) zero e = omega arith
    row_inside (b ∷ row) (suc j) e = let l = row_inside row j e in omega arith

    within : (rows : Bits) (i j n : ℕ)
        → ((k : ℕ) (row : List Bool) → slice_get rows k ≡ Some row → length row ≡ n)
        → IsTrue (is_set rows i j) → j < n
    within [] i j n w e = absurd (let f : false ≡ true = e in cc)
    within (row ∷ rows) zero j n w e =
        let l = row_inside row j (sym (unwrap_or-slice_get row j false) ∙ e)
        in let m : length row ≡ n = w 0 row refl in omega arith
    within (row ∷ rows) (suc i) j n w e = within rows i j n (λ k r f. w (suc k) r f) e
