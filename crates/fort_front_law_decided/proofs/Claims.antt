-- Claims that can't fail: of the numbers below a number, and of a list of what each has.
use Rattle.std.proofs.Common.{◌≡◌, ◌<◌, ◌↔◌, inl, inr, ℕ, zero, suc, Bool, true, false, IsTrue, List, [], ◌∷◌, ◌++◌, length, get_or, Some, refl, sym, ◌∙◌, subst, arith}
use Rattle.std.specs.List.{slice_get}
use Rattle.std.proofs.Math.ListN.{length-append}
use Rattle.std.proofs.lemmas.Option.{slice_get-get_or}
use Rattle.fort_types.specs.Table.{is_set, IsExact}
use Rattle.fort_front_law_decided.proofs.Order.{near}
use Rattle.fort_front_law_decided.proofs.Items.{with_last}

-- A claim can't fail.
abbrev pub CantFail : Type 0 → Type 0
CantFail P = (P → ⊥) → ⊥

-- ---- below a number

-- What can't fail of each number below one can't fail of all of them.
pub all_below : (P : ℕ → Type 0) (n : ℕ) → ((k : ℕ) → k < n → CantFail (P k))
    → CantFail ((k : ℕ) → k < n → P k)
all_below P zero each none = none (λ k l. absurd (omega arith))
all_below P (suc n) each none = all_below P n (λ k l. each k (omega arith)) (λ f.
    each n (omega arith) (λ p. none (λ k l. elim (near k n (omega arith)) as (λ _. P k) [
      | inl m ↦ f k m
      | inr e ↦ subst P (sym e) p
    ])))

-- A list has one for each number below its length, by its place.
abbrev pub HasEach : {X : Type 0} → (ℕ → X → Type 0) → ℕ → List X → Type 0
HasEach {X} P n xs = (length xs ≡ n) × ((k : ℕ) (x : X) → slice_get xs k ≡ Some x → P k x)

-- One for each number, as a list.
pub list_of : {X : Type 0} (P : ℕ → X → Type 0) (n : ℕ) → ((k : ℕ) → k < n → (x : X) × P k x)
    → (xs : List X) × HasEach P n xs
list_of P zero each = ([], (refl, λ k x e. absurd cc))
list_of {X} P (suc n) each =
    let r = list_of P n (λ k l. each k (omega arith)) in let y = each n (omega arith) in (
      r.0 ++ y.0 ∷ [],
      (
        (let a = length-append r.0 (y.0 ∷ []) in let l = r.1.0 in omega arith),
        λ k x e. elim (with_last r.0 y.0 k x e) as (λ _. P k x) [
          | inl q ↦ r.1.1 k x q
          | inr q ↦ subst (P k) q.1 (subst (λ z. P z y.0) (sym (q.0 ∙ r.1.0)) y.1)
        ],
      ),
    )

pub list_below : {X : Type 0} (P : ℕ → X → Type 0) (n : ℕ)
    → ((k : ℕ) → k < n → CantFail ((x : X) × P k x)) → CantFail ((xs : List X) × HasEach P n xs)
list_below {X} P n each none =
    all_below (λ k. (x : X) × P k x) n each (λ f. none (list_of P n f))

-- ---- rows of bits

abbrev Bits : (ℕ → ℕ → Type 0) → ℕ → ℕ → List Bool → Type 0
Bits R n i row = HasEach (λ j b. IsTrue b ↔ R i j) n row

-- a bit says whether something is so
one_bit : (P : Type 0) → CantFail ((b : Bool) × (IsTrue b ↔ P))
one_bit P none =
    none (false, (λ t. absurd (let f : false ≡ true = t in cc), λ p. absurd (none (true, (λ _. p, λ _. refl)))))

set_at : (rows : List (List Bool)) (i j : ℕ) (row : List Bool) (b : Bool)
    → slice_get rows i ≡ Some row → slice_get row j ≡ Some b → is_set rows i j ≡ b
set_at rows i j row b e f = cc

module _ (R : ℕ → ℕ → Type 0) (n : ℕ) (rows : List (List Bool)) (h : HasEach (Bits R n) n rows) where
  exact : IsExact R n rows
  exact = record {
    high = h.0;
    wide = λ i row e. (h.1 i row e).0;
    sets = λ i j l m. at i j l m (get_or rows i [])
        (slice_get-get_or rows i [] (let q = h.0 in omega arith));
  }
    where
      at : (i j : ℕ) → i < n → j < n → (row : List Bool) → slice_get rows i ≡ Some row
          → IsTrue (is_set rows i j) ↔ R i j
      at i j l m row e = let w = h.1 i row e in
          let f = slice_get-get_or row j false (let q = w.0 in omega arith) in
          subst (λ z. IsTrue z ↔ R i j) (sym (set_at rows i j row (get_or row j false) e f))
          (w.1 j (get_or row j false) f)

-- Rows of bits that are exact for a relation can't fail to be there.
pub has_rows : (R : ℕ → ℕ → Type 0) (n : ℕ) → CantFail ((rows : List (List Bool)) × IsExact R n rows)
has_rows R n none =
    list_below (Bits R n) n
    (λ i l. list_below (λ j b. IsTrue b ↔ R i j) n (λ j m. one_bit (R i j)))
    (λ r. none (r.0, exact R n r.0 r.1))
