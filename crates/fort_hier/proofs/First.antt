-- The earliest place of a list that is walked.
use Rattle.std.proofs.Common.{◌≡◌, ◌<◌, ◌+◌, ◌⊎◌, inl, inr, ℕ, List, Option, Some, None, sym, subst, arith}
use Rattle.std.specs.List.{slice_get}
use Rattle.fort_base.specs.declared.refusal.Place.{Place}
use Rattle.fort_base.specs.Places.{IsBefore, IsFirst, Keeps}

-- What breaks a rule among the first ones.
abbrev pub Among : (ℕ → Place → Type 0) → ℕ → Place → Type 0
Among Q to place = (k : ℕ) × (k < to) × Q k place

near : (j n : ℕ) → j < n + 1 → (j < n) ⊎ (j ≡ n)
near j n b = grind arith

-- no place is before one that is before neither of two
pub not_before : (a b c : Place) → (IsBefore a b → ⊥) → (IsBefore b c → ⊥) → IsBefore a c → ⊥
not_before a b c p q r = grind arith

pub before_through : (a b c : Place) → IsBefore a b → (IsBefore c b → ⊥) → IsBefore c a → ⊥
before_through a b c p q r = grind arith

pub not_itself : (a : Place) → IsBefore a a → ⊥
not_itself a p = grind arith

pub first_none : (Q : ℕ → Place → Type 0) → IsFirst (Among Q 0) None
first_none Q place w = let l = w.1 in omega arith

pub first_same : (Q : ℕ → Place → Type 0) (to : ℕ) (best : Option Place)
    → ((place : Place) → Q to place → ⊥) → IsFirst (Among Q to) best
    → IsFirst (Among Q (to + 1)) best
first_same Q to None n f =
    λ place w. elim (near w.0 to w.1) as (λ _. ⊥) [
      | inl b ↦ f place (w.0, b, w.2)
      | inr e ↦ n place (subst (λ z. Q z place) e w.2)
    ]
first_same Q to (Some best) n f = record {
  breaks = (f.breaks.0, let l = f.breaks.1 in omega arith, f.breaks.2);
  none_before =
      λ other w b. elim (near w.0 to w.1) as (λ _. ⊥) [
        | inl l ↦ f.none_before other (w.0, l, w.2) b
        | inr e ↦ n other (subst (λ z. Q z other) e w.2)
      ];
}

pub first_more : (Q : ℕ → Place → Type 0) (to : ℕ) (best kept : Option Place) (place : Place)
    → Q to place → ((other : Place) → Q to other → other ≡ place) → Keeps best place kept
    → IsFirst (Among Q to) best → IsFirst (Among Q (to + 1)) kept
first_more Q to None kept place q u k f = subst (IsFirst (Among Q (to + 1))) (sym k) (record {
  breaks = (to, omega arith, q);
  none_before = λ other w b. elim (near w.0 to w.1) as (λ _. ⊥) [
    | inl l ↦ f other (w.0, l, w.2)
    | inr e ↦
        not_itself place (subst (λ z. IsBefore z place) (u other (subst (λ z. Q z other) e w.2)) b)
  ];
})
first_more Q to (Some best) kept place q u k f = elim k as (λ _. IsFirst (Among Q (to + 1)) kept) [
  | inl w ↦ subst (IsFirst (Among Q (to + 1))) (sym w.1) (record {
    breaks = (f.breaks.0, let l = f.breaks.1 in omega arith, f.breaks.2);
    none_before = λ other v b. elim (near v.0 to v.1) as (λ _. ⊥) [
      | inl l ↦ f.none_before other (v.0, l, v.2) b
      | inr e ↦
          (let s : other ≡ place = u other (subst (λ z. Q z other) e v.2)
          in not_itself best (through best place best w.0 (subst (λ z. IsBefore z best) s b)))
    ];
  })
  | inr w ↦ subst (IsFirst (Among Q (to + 1))) (sym w.1) (record {
    breaks = (to, omega arith, q);
    none_before = λ other v b. elim (near v.0 to v.1) as (λ _. ⊥) [
      | inl l ↦ not_before other best place (f.none_before other (v.0, l, v.2)) w.0 b
      | inr e ↦
          not_itself place (subst (λ z. IsBefore z place) (u other (subst (λ z. Q z other) e v.2)) b)
    ];
  })
]
  where
    through : (a b c : Place) → IsBefore a b → IsBefore b c → IsBefore a c
    through a b c p q = grind arith

-- what holds of all is what holds of as many as there are
pub first_all : (Q : ℕ → Place → Type 0) (P : Place → Type 0) (to : ℕ) (best : Option Place)
    → ((place : Place) → P place → Among Q to place)
    → ((place : Place) → Among Q to place → P place)
    → IsFirst (Among Q to) best → IsFirst P best
first_all Q P to None a b f = λ place w. f place (a place w)
first_all Q P to (Some best) a b f =
    record {
      breaks = b best f.breaks;
      none_before = λ other w c. f.none_before other (a other w) c;
    }

-- a list has one place at a number
pub same_place : (places : List Place) (k : ℕ) (a b : Place) → slice_get places k ≡ Some a
    → slice_get places k ≡ Some b → b ≡ a
same_place places k a b p q = cc
