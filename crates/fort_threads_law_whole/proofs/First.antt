-- The first world: once the first object is there, before servers stand there.
use Rattle.std.proofs.Common.{◌≡◌, ℕ, ◌+◌, ◌<◌, ◌==◌, Bool, true, false, List, [], ◌∷◌, Option, Some, None, if◌then◌else◌, pos, arith, rules, refl, ap, sym, ◌∙◌, ◌⊎◌, inl, inr}
use Rattle.fort_core.specs.declared.program.Program.{Program}
use Rattle.fort_core.specs.declared.value.Value.{Value, Small, Truth}
use Rattle.fort_machine.specs.Acts.{unit}
use Rattle.fort_machine.specs.Cells.{Cell, untouched, found, left_at}
use Rattle.fort_machine.specs.Effects.{Store, only_at, writing, FitsAll, afterwards}
use Rattle.fort_machine.specs.Journals.{opening_store}
use Rattle.fort_machine.specs.Parts.{IsOneOf}
use Rattle.fort_threads_law_servers.specs.Prelude.{Names}
use Rattle.fort_threads_law_servers.specs.Roots.{Start}
use Rattle.fort_threads_law_worlds.specs.Worlds.{Use, unused, for_all, of_prelude, World}
use Rattle.fort_threads_law_calls.proofs.Rows.{InRow, in_row, out_of_row, place_at}
use Rattle.fort_threads_law_whole.specs.Early.{variables, started_store, open_store}

-- Where a location stands: at the first object, at one of the prelude's variables, or elsewhere.
pub data Where (n : Names) (m : Start) (l i : ℕ) : Type 0 where
  at_first : (place : ℕ) → place < 4 → i ≡ l + place → Where n m l i
  at_variable : ((place : ℕ) → place < 4 → i ≡ l + place → ⊥) → IsOneOf i (variables n m)
      → Where n m l i
  elsewhere : ((place : ℕ) → place < 4 → i ≡ l + place → ⊥)
      → (IsOneOf i (variables n m) → ⊥) → Where n m l i

-- one of some numbers, or none of them
one_of : (i : ℕ) (ls : List ℕ) → IsOneOf i ls ⊎ (IsOneOf i ls → ⊥)
one_of i [] = inr (λ h. h)
one_of i (l ∷ ls) = go (i == l) refl (one_of i ls)
  where
    go : (b : Bool) → (i == l) ≡ b → IsOneOf i ls ⊎ (IsOneOf i ls → ⊥)
        → IsOneOf i (l ∷ ls) ⊎ (IsOneOf i (l ∷ ls) → ⊥)
    go true e k = let z : i ≡ l = search (rules, e) in inl (inl z)
    go false e (inl h) = inl (inr h)
    go false e (inr h) = inr (λ c. neither c)
      where
        neither : IsOneOf i (l ∷ ls) → ⊥
        neither (inl q) =
            let z : (i == l) ≡ true = search (rules, q) in
            let y : true ≡ false = sym z ∙ e in cc
        neither (inr q) = h q

pub where_is : (n : Names) (m : Start) (l i : ℕ) → Where n m l i
where_is n m l i = go (place_at l i) (one_of i (variables n m))
  where
    go : InRow l i → IsOneOf i (variables n m) ⊎ (IsOneOf i (variables n m) → ⊥)
        → Where n m l i
    go (in_row place k e) h = at_first place k e
    go (out_of_row k) (inl h) = at_variable k h
    go (out_of_row k) (inr h) = elsewhere k h

-- what it is for
abbrev pub by_value : Option Value → Use
by_value None = unused
by_value (Some v) = for_all

abbrev pub use_where : {n : Names} {m : Start} {l i : ℕ} → Option Value → Where n m l i → Use
use_where o (at_first place k e) = of_prelude
use_where o (at_variable k h) = of_prelude
use_where o (elsewhere k h) = by_value o

abbrev pub lasts_where : {n : Names} {m : Start} {l i : ℕ} → Where n m l i → Bool
lasts_where (at_first place k e) = true
lasts_where (at_variable k h) = false
lasts_where (elsewhere k h) = false

abbrev pub first_world : Program → Names → Start → ℕ → World
first_world p n m l = record {
  serves = λ i. use_where (opening_store p i) (where_is n m l i);
  object = λ i. None;
  spawned = 0;
  queue = [];
  unended = 1;
  lasts = λ i. lasts_where (where_is n m l i);
}

-- ---- the store, once both assignments are done

-- two numbers that the machine tells apart are two
pub apart_by : (a b : ℕ) → (a == b) ≡ false → a ≡ b → ⊥
apart_by a b e q =
    let z : (a == b) ≡ true = search (rules, q) in let y : true ≡ false = sym z ∙ e in cc

-- a write leaves other locations, and its own has what was written
pub written_left : (l : ℕ) (v : Value) (s : Store) (i : ℕ) → (l ≡ i → ⊥)
    → afterwards (writing l v) s i ≡ s i
written_left l v s i n = go (l == i) refl
  where
    go : (b : Bool) → (l == i) ≡ b
        → left_at (if b then found None (Some v) else untouched) (s i) ≡ s i
    go true e = let z : l ≡ i = search (rules, e) in absurd (n z)
    go false e = refl

pub written_there : (l : ℕ) (v : Value) (s : Store) → afterwards (writing l v) s l ≡ Some v
written_there l v s = go (l == l) here
  where
    here : (l == l) ≡ true
    here = search rules

    go : (b : Bool) → b ≡ true
        → left_at (if b then found None (Some v) else untouched) (s l) ≡ Some v
    go true e = refl
    go false e = let z : false ≡ true = e in absurd cc

-- what is no variable of the prelude is as it was
pub open_elsewhere : (p : Program) (n : Names) (m : Start) (i : ℕ) → (n.unended ≡ i → ⊥)
    → (m.started ≡ i → ⊥) → open_store p n m i ≡ opening_store p i
open_elsewhere p n m i a b =
    written_left n.unended (Small (pos 1)) (started_store p m) i a
    ∙ written_left m.started (Truth true) (opening_store p) i b
