-- The four locations of a new object.
use Rattle.std.proofs.Common.{◌≡◌, ℕ, zero, suc, ◌+◌, ◌-◌, ◌<◌, ◌≤◌, ◌==◌, Bool, true, false, List, [], ◌∷◌, length, Some, None, if◌then◌else◌, pos, arith, rules, refl, ap, sym, ◌∙◌}
use Rattle.std.specs.Prelude.{nat_le, nat_lt, slice_get}
use Rattle.std.proofs.lemmas.Bool.{ltb-true, leb-true, lt-ltb, le-leb}
use Rattle.fort_core.specs.declared.value.Value.{Value, Small}
use Rattle.fort_machine.specs.Acts.{unit}
use Rattle.fort_machine.specs.Cells.{untouched, made, left_at}
use Rattle.fort_machine.specs.Effects.{Store, made_from, making, FitsAll, afterwards}
use Rattle.fort_machine.proofs.Effects.{row_made}
use Rattle.fort_machine.proofs.Plain.{makes_plainly}
use Rattle.fort_threads.specs.Moves.{opening_fields}
use Rattle.fort_threads_law_worlds.specs.Worlds.{Use, part_of}

-- a location in the row, or elsewhere
pub data InRow (l i : ℕ) : Type 0 where
  in_row : (place : ℕ) → place < 4 → i ≡ l + place → InRow l i
  out_of_row : ((place : ℕ) → place < 4 → i ≡ l + place → ⊥) → InRow l i

pub place_at : (l i : ℕ) → InRow l i
place_at l i = go (nat_le l i) refl (nat_lt i (l + 4)) refl
  where
    go : (b : Bool) → nat_le l i ≡ b → (c : Bool) → nat_lt i (l + 4) ≡ c → InRow l i
    go true e true q =
        let h = leb-true l i e in let k = ltb-true i (l + 4) q in
        in_row (i - l) (omega arith) (omega arith)
    go true e false q =
        out_of_row (λ place h k.
        let z : i < l + 4 = omega arith in
        let y : nat_lt i (l + 4) ≡ true = lt-ltb i (l + 4) z in
        let x : true ≡ false = sym y ∙ q in absurd cc)
    go false e c q =
        out_of_row (λ place h k.
        let z : l ≤ i = omega arith in
        let y : nat_le l i ≡ true = le-leb l i z in
        let x : true ≡ false = sym y ∙ e in absurd cc)

-- the row is an object's places
abbrev pub use_at : (l i : ℕ) → Use → InRow l i → Use
use_at l i u (in_row place h e) = part_of l place
use_at l i u (out_of_row n) = u

abbrev pub part_at : ℕ → ℕ → Use → Use
part_at l i u = use_at l i u (place_at l i)

pub part_in : (l place : ℕ) (u : Use) → place < 4 → part_at l (l + place) u ≡ part_of l place
part_in l place u h = go (place_at l (l + place))
  where
    go : (x : InRow l (l + place)) → use_at l (l + place) u x ≡ part_of l place
    go (in_row other k e) = let z : other ≡ place = omega arith in ap (part_of l) z
    go (out_of_row n) = absurd (n place h refl)

pub part_out : (l i : ℕ) (u : Use) → ((place : ℕ) → place < 4 → i ≡ l + place → ⊥)
    → part_at l i u ≡ u
part_out l i u n = go (place_at l i)
  where
    go : (x : InRow l i) → use_at l i u x ≡ u
    go (in_row place h e) = absurd (n place h e)
    go (out_of_row m) = refl

-- ---- what is made there

pub field_at : (f : Value) (place : ℕ) → place < 4
    → (v : Value) × (slice_get (opening_fields f) place ≡ Some v)
field_at f zero h = (f, refl)
field_at f (suc zero) h = (Small (pos 0), refl)
field_at f (suc (suc zero)) h = (unit, refl)
field_at f (suc (suc (suc zero))) h = (unit, refl)
field_at f (suc (suc (suc (suc place)))) h = absurd (omega arith)

row_spares : (l : ℕ) (vs : List Value) (i : ℕ)
    → ((place : ℕ) → place < length vs → i ≡ l + place → ⊥) → made_from l vs i ≡ untouched
row_spares l [] i n = refl
row_spares l (v ∷ vs) i n =
    go (l == i) refl
    (row_spares (l + 1) vs i (λ place h e. n (suc place) (omega arith) (omega arith)))
  where
    go : (b : Bool) → (l == i) ≡ b → made_from (l + 1) vs i ≡ untouched
        → (if b then made (Some v) else made_from (l + 1) vs i) ≡ untouched
    go true e k =
        let z : l ≡ i = search (rules, e) in
        absurd (n 0 (omega arith) (omega arith))
    go false e k = k

module _ (l : ℕ) (f : Value) (c : ℕ) where
  -- each field stands at its place, and all else is as before
  pub field_made : (place : ℕ) (v : Value) → slice_get (opening_fields f) place ≡ Some v
      → (making l (opening_fields f) c).cells (l + place) ≡ made (Some v)
  field_made place v e = row_made l (opening_fields f) place v e

  pub field_left : (s : Store) (place : ℕ) (v : Value)
      → slice_get (opening_fields f) place ≡ Some v
      → afterwards (making l (opening_fields f) c) s (l + place) ≡ Some v
  field_left s place v e = ap (λ x. left_at x (s (l + place))) (field_made place v e)

  pub row_untouched : (i : ℕ) → ((place : ℕ) → place < 4 → i ≡ l + place → ⊥)
      → (making l (opening_fields f) c).cells i ≡ untouched
  row_untouched i n = row_spares l (opening_fields f) i n

  pub row_left : (s : Store) (i : ℕ) → ((place : ℕ) → place < 4 → i ≡ l + place → ⊥)
      → afterwards (making l (opening_fields f) c) s i ≡ s i
  row_left s i n = ap (λ x. left_at x (s i)) (row_untouched i n)

  -- it suits a store that has nothing there
  pub row_absent : (s : Store) → FitsAll (making l (opening_fields f) c) s → (place : ℕ)
      → place < 4 → s (l + place) ≡ None
  row_absent s k place h = (makes_plainly l (opening_fields f) c s).0.0 k place h

  pub row_fits : (s : Store) → ((place : ℕ) → place < 4 → s (l + place) ≡ None)
      → FitsAll (making l (opening_fields f) c) s
  row_fits s h = (makes_plainly l (opening_fields f) c s).0.1 h
