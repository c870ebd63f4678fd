-- What has no first one, by number or by place, has none.
use Rattle.std.proofs.Common.{◌≡◌, ◌<◌, ◌≤◌, ◌+◌, ◌⊎◌, inl, inr, ℕ, zero, suc, sym, subst, arith}
use Rattle.fort_base.specs.declared.refusal.Place.{Place}
use Rattle.fort_base.specs.Places.{IsBefore, IsEarliest}

pub near : (j n : ℕ) → j < n + 1 → (j < n) ⊎ (j ≡ n)
near j n b = grind arith

at_most_or : (a b : ℕ) → (a ≤ b) ⊎ (b < a)
at_most_or a b = grind arith

-- ---- numbers

-- What is so of a number where it is so of all lower ones is so of each.
module _ (P : ℕ → Type 0) (step : (n : ℕ) → ((m : ℕ) → m < n → P m) → P n) where
  lower : (n m : ℕ) → m < n → P m
  lower zero m l = absurd (omega arith)
  lower (suc n) m l = elim (near m n (omega arith)) as (λ _. P m) [
    | inl k ↦ lower n m k
    | inr e ↦ subst P (sym e) (step n (lower n))
  ]

  pub by_lower : (n : ℕ) → P n
  by_lower n = step n (lower n)

-- ---- places

abbrev place_at : ℕ → ℕ → Place
place_at line column = record { line = line; column = column }

-- What is so of a place where it is so of all before it is so of each.
pub by_before : (P : Place → Type 0) → ((p : Place) → ((q : Place) → IsBefore q p → P q) → P p)
    → (p : Place) → P p
by_before P step p = lines p.line p.column
  where
    lines : (line column : ℕ) → P (place_at line column)
    lines = by_lower (λ line. (column : ℕ) → P (place_at line column))
        (λ line above. by_lower (λ column. P (place_at line column))
        (λ column left. step (place_at line column)
        (λ q b. elim b as (λ _. P q) [
          | inl l ↦ above q.line l q.column
          | inr r ↦ subst (λ z. P (place_at z q.column)) (sym r.0) (left q.column r.1)
        ])))

-- Where no place is the earliest that breaks a rule, no place breaks it.
pub none_earliest : (Breaks : Place → Type 0) → ((p : Place) → IsEarliest Breaks p → ⊥)
    → (p : Place) → Breaks p → ⊥
none_earliest Breaks none = by_before (λ p. Breaks p → ⊥)
    (λ p before b. none p (record { breaks = b; none_before = λ q x l. before q l x }))

-- Where none is the rule of the lowest number that is broken, at its earliest place, none is broken.
pub none_reported : (Broken : ℕ → Place → Type 0)
    → ((rule : ℕ) (p : Place) → IsEarliest (Broken rule) p
    → ((other : ℕ) (at : Place) → Broken other at → rule ≤ other) → ⊥)
    → (rule : ℕ) (p : Place) → Broken rule p → ⊥
none_reported Broken none = by_lower (λ rule. (p : Place) → Broken rule p → ⊥)
    (λ rule fewer. none_earliest (Broken rule)
    (λ p e. none rule p e (λ other at b. elim (at_most_or rule other) as (λ _. rule ≤ other) [
      | inl l ↦ l
      | inr l ↦ absurd (fewer other l at b)
    ])))
