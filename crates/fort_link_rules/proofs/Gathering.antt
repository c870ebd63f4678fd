-- Gathering the places at which a rule is broken.
use Rattle.std.proofs.Common.{◌≡◌, ◌<◌, ◌≤◌, ◌+◌, ◌++◌, [], ◌∷◌, ◌⊎◌, inl, inr, ℕ, Bool, not, List, Contains, IsFalse, Option, Some, None, Result, Ok, Err, OnOk, length, get_or, sym, ◌∙◌, subst, arith}
use Rattle.std.specs.Prelude.{Any}
use Rattle.std.proofs.lemmas.Bool.{not-true, not_from_false}
use Rattle.std.proofs.lemmas.List.{get_or_default}
use Rattle.std.proofs.lemmas.Option.{slice_get-get_or}
use Rattle.std.proofs.lemmas.List.Elements.{Contains-append_left, Contains-push, Contains-push_cases}
use Rattle.fort_base.specs.declared.refusal.Place.{Place}
use Rattle.fort_base.specs.Places.{IsFirst}
use Rattle.fort_link_rules.specs.Places.{Gathers, IsThere}

-- What breaks a rule among the first items of a list.
abbrev pub Among : {X : Type 0} → (X → Place → Type 0) → List X → ℕ → Place → Type 0
Among {X} Q xs to place = (k : ℕ) × (x : X) × (k < to) × (k < length xs) × (get_or xs k x ≡ x)
    × Q x place

nearer : (j n : ℕ) → j < n + 1 → (j < n) ⊎ (j ≡ n)
nearer j n b = grind arith

-- nothing came where nothing breaks it
pub gathers_same : (P : Place → Type 0) (old : List Place) → ((place : Place) → P place → ⊥)
    → Gathers P old old
gathers_same P old none =
    λ place. (
      λ c. inl c,
      λ s. elim s as (λ _. Contains old place) [
        | inl c ↦ c
        | inr w ↦ absurd (none place w)
      ],
    )

-- the same rule in other words
pub gathers_by : (P Q : Place → Type 0) (old new : List Place)
    → ((place : Place) → P place → Q place) → ((place : Place) → Q place → P place)
    → Gathers P old new → Gathers Q old new
gathers_by P Q old new to from g =
    λ place. (
      λ c. elim ((g place).0 c) as (λ _. Contains old place ⊎ Q place) [
        | inl b ↦ inl b
        | inr w ↦ inr (to place w)
      ],
      λ s. elim s as (λ _. Contains new place) [
        | inl b ↦ (g place).1 (inl b)
        | inr w ↦ (g place).1 (inr (from place w))
      ],
    )

-- two rules, one after the other
pub gathers_both : (P Q : Place → Type 0) (old mid new : List Place) → Gathers P old mid
    → Gathers Q mid new → Gathers (λ place. P place ⊎ Q place) old new
gathers_both P Q old mid new g h =
    λ place. (
      λ c. elim ((h place).0 c) as (λ _. Contains old place ⊎ (P place ⊎ Q place)) [
        | inl b ↦ elim ((g place).0 b) as (λ _. Contains old place ⊎ (P place ⊎ Q place)) [
          | inl a ↦ inl a
          | inr w ↦ inr (inl w)
        ]
        | inr w ↦ inr (inr w)
      ],
      λ s. elim s as (λ _. Contains new place) [
        | inl a ↦ (h place).1 (inl ((g place).1 (inl a)))
        | inr e ↦ elim e as (λ _. Contains new place) [
          | inl w ↦ (h place).1 (inl ((g place).1 (inr w)))
          | inr w ↦ (h place).1 (inr w)
        ]
      ],
    )

-- one place came
pub gathers_one : (at : Place) (old new : List Place) → new ≡ old ++ at ∷ []
    → Gathers (λ place. at ≡ place) old new
gathers_one at old new e =
    subst (λ z. Gathers (λ place. at ≡ place) old z) (sym e) (λ place. (
      λ c. Contains-push_cases old at place c,
      λ s. elim s as (λ _. Contains (old ++ at ∷ []) place) [
        | inl c ↦ Contains-append_left old (at ∷ []) place c
        | inr w ↦ subst (Contains (old ++ at ∷ [])) w (Contains-push old at)
      ],
    ))

-- ---- a walk over items

-- one item is read at one number
same_read : {X : Type 0} (xs : List X) (k i : ℕ) (y x : X) → i < length xs → k ≡ i
    → get_or xs k y ≡ y → x ≡ get_or xs i x → y ≡ x
same_read xs k i y x lt e q is =
    let l : k < length xs = omega arith in
    let a = slice_get-get_or xs k y l in let b = slice_get-get_or xs i x lt in cc

pub gathers_none : {X : Type 0} (Q : X → Place → Type 0) (xs : List X) (old : List Place)
    → Gathers (Among Q xs 0) old old
gathers_none Q xs old =
    gathers_same (Among Q xs 0) old (λ place w. let l = w.2 in omega arith)

pub gathers_more : {X : Type 0} (Q : X → Place → Type 0) (xs : List X) (i : ℕ) (x : X)
    (old at new : List Place) → i < length xs → x ≡ get_or xs i x
    → Gathers (Among Q xs i) old at → Gathers (Q x) at new
    → Gathers (Among Q xs (i + 1)) old new
gathers_more {X} Q xs i x old at new lt is g h =
    gathers_by (λ place. Among Q xs i place ⊎ Q x place) (Among Q xs (i + 1)) old new to from
    (gathers_both (Among Q xs i) (Q x) old at new g h)
  where
    to : (place : Place) → Among Q xs i place ⊎ Q x place → Among Q xs (i + 1) place
    to place (inl w) = (w.0, w.1, let l = w.2 in omega arith, w.3, w.4, w.5)
    to place (inr w) = (i, x, omega arith, lt, sym is, w)

    at_last : (k : ℕ) (y : X) → k ≡ i → get_or xs k y ≡ y → y ≡ x
    at_last k y e q = same_read xs k i y x lt e q is

    from : (place : Place) → Among Q xs (i + 1) place → Among Q xs i place ⊎ Q x place
    from place w = elim (nearer w.0 i w.2) as (λ _. Among Q xs i place ⊎ Q x place) [
      | inl l ↦ inl (w.0, w.1, l, w.3, w.4, w.5)
      | inr e ↦ inr (subst (λ y. Q y place) (at_last w.0 w.1 e w.4) w.5)
    ]

-- the same of an item that is read
pub gathers_more_at : {X : Type 0} (Q : X → Place → Type 0) (xs : List X) (i : ℕ) (d : X)
    (old at new : List Place) → i < length xs → Gathers (Among Q xs i) old at
    → Gathers (Q (get_or xs i d)) at new → Gathers (Among Q xs (i + 1)) old new
gathers_more_at Q xs i d old at new lt g h =
    gathers_more Q xs i (get_or xs i d) old at new lt (get_or_default xs i d (get_or xs i d) lt) g h

pub gathers_all : {X : Type 0} (Q : X → Place → Type 0) (xs : List X) (i : ℕ)
    (old new : List Place) → length xs ≤ i → Gathers (Among Q xs i) old new
    → Gathers (λ place. Any (λ x. Q x place) xs) old new
gathers_all Q xs i old new le g =
    gathers_by (Among Q xs i) (λ place. Any (λ x. Q x place) xs) old new (λ place w.
    (w.0, w.1, w.3, w.4, w.5)) (λ place w.
    (w.0, w.1, let l = w.2 in omega arith, w.2, w.3, w.4)) g

-- the earliest of what was gathered is the first that breaks the rule
pub first_of : (P : Place → Type 0) (places : List Place) (first : Option Place)
    → Gathers P [] places → IsFirst (Contains places) first → IsFirst P first
first_of P places None g f = λ place w. f place ((g place).1 (inr w))
first_of P places (Some at) g f = record {
  breaks = elim ((g at).0 f.breaks) as (λ _. P at) [
    | inl c ↦ (let l = c.1 in absurd (omega arith))
    | inr w ↦ w
  ];
  none_before = λ other w b. f.none_before other ((g other).1 (inr w)) b;
}

-- ---- a walk over numbers

-- What breaks a rule at one of the first numbers.
abbrev pub Below : (ℕ → Place → Type 0) → ℕ → Place → Type 0
Below Q to place = (k : ℕ) × (k < to) × Q k place

pub gathers_none_below : (Q : ℕ → Place → Type 0) (old : List Place)
    → Gathers (Below Q 0) old old
gathers_none_below Q old =
    gathers_same (Below Q 0) old (λ place w. let l = w.1 in omega arith)

pub gathers_more_below : (Q : ℕ → Place → Type 0) (i : ℕ) (old at new : List Place)
    → Gathers (Below Q i) old at → Gathers (Q i) at new → Gathers (Below Q (i + 1)) old new
gathers_more_below Q i old at new g h =
    gathers_by (λ place. Below Q i place ⊎ Q i place) (Below Q (i + 1)) old new to from
    (gathers_both (Below Q i) (Q i) old at new g h)
  where
    to : (place : Place) → Below Q i place ⊎ Q i place → Below Q (i + 1) place
    to place (inl w) = (w.0, let l = w.1 in omega arith, w.2)
    to place (inr w) = (i, omega arith, w)

    from : (place : Place) → Below Q (i + 1) place → Below Q i place ⊎ Q i place
    from place w = elim (nearer w.0 i w.1) as (λ _. Below Q i place ⊎ Q i place) [
      | inl l ↦ inl (w.0, l, w.2)
      | inr e ↦ inr (subst (λ k. Q k place) e w.2)
    ]

-- ---- one place, by a test

-- where the test is another's negation
pub gathers_where_not : (r b : Bool) (at : Place) (old new : List Place) → r ≡ b
    → Gathers (IsThere (not r) at) old new
    → Gathers (λ place. IsFalse b × (at ≡ place)) old new
gathers_where_not r b at old new e g =
    gathers_by (IsThere (not r) at) (λ place. IsFalse b × (at ≡ place)) old new (λ place w.
    (sym e ∙ not-true r w.0, w.1)) (λ place w. (not_from_false r (e ∙ w.0), w.1)) g

-- ---- the first of what was gathered

pub gathers_begin : {X : Type 0} (Q : X → Place → Type 0) (xs : List X) (new : List Place)
    → new ≡ [] → Gathers (Among Q xs 0) [] new
gathers_begin Q xs new e =
    subst (λ z. Gathers (Among Q xs 0) [] z) (sym e) (gathers_none Q xs [])

pub found : {X : Type 0} (Q : X → Place → Type 0) (xs : List X) (i : ℕ)
    (places slice : List Place) (first : Option Place) → length xs ≤ i
    → Gathers (Among Q xs i) [] places → slice ≡ places → IsFirst (Contains slice) first
    → IsFirst (λ place. Any (λ x. Q x place) xs) first
found Q xs i places slice first le g e f =
    first_of (λ place. Any (λ x. Q x place) xs) places first
    (gathers_all Q xs i [] places le g) (subst (λ z. IsFirst (Contains z) first) e f)

-- ---- after a call that may want memory

pub on_ok : {A E : Type 0} (r : Result A E) {P Q : Type 0} → (P → Q) → OnOk r P → OnOk r Q
on_ok (Ok a) f h = f h
on_ok (Err e) f h = h
