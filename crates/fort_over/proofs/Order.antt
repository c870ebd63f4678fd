-- The order in which broken pairs stand.
use Rattle.std.proofs.Common.{◌≡◌, ◌<◌, ◌⊎◌, inl, inr, ℕ, sym, ap₂, ◌∙◌, subst, arith}
use Rattle.fort_base.specs.declared.refusal.Place.{Place}
use Rattle.fort_base.specs.Places.{IsBefore}
use Rattle.fort_over.specs.declared.places.BrokenPair.{BrokenPair}
use Rattle.fort_over.specs.Standing.{Spot, ByPlaces, ByPositions, StandsBefore}
use Rattle.fort_over.specs.Walks.{IsSooner}

not_itself : (a : Place) → IsBefore a a → ⊥
not_itself a p = grind arith

before_through : (a b c : Place) → IsBefore a b → IsBefore b c → IsBefore a c
before_through a b c p q = grind arith

by_places_through : (a b c : Spot) → ByPlaces a b → ByPlaces b c → ByPlaces a c
by_places_through a b c (inl p) (inl q) =
    inl (before_through a.later_place b.later_place c.later_place p q)
by_places_through a b c (inl p) (inr q) = inl (subst (IsBefore a.later_place) q.0 p)
by_places_through a b c (inr p) (inl q) = inl (subst (λ z. IsBefore z c.later_place) (sym p.0) q)
by_places_through a b c (inr p) (inr q) =
    inr (p.0 ∙ q.0, before_through a.earlier_place b.earlier_place c.earlier_place p.1 q.1)

by_places_itself : (a b : Spot) → a.later_place ≡ b.later_place → a.earlier_place ≡ b.earlier_place
    → ByPlaces a b → ⊥
by_places_itself a b e f (inl p) =
    not_itself b.later_place (subst (λ z. IsBefore z b.later_place) e p)
by_places_itself a b e f (inr p) =
    not_itself b.earlier_place (subst (λ z. IsBefore z b.earlier_place) f p.1)

by_positions_not_back : (a b : Spot) → ByPositions a b → ByPositions b a → ⊥
by_positions_not_back a b p q = grind arith

-- no pair stands before one whose places come first, if it stands before none of those that it
-- comes before
pub not_before_sooner : (x b o : Spot) → ByPlaces x b → (StandsBefore o b → ⊥) → StandsBefore o x
    → ⊥
not_before_sooner x b o p n (inl q) = n (inl (by_places_through o x b q p))
not_before_sooner x b o p n (inr q) = n (inl (moved p))
  where
    moved : ByPlaces x b → ByPlaces o b
    moved (inl r) = inl (subst (λ z. IsBefore z b.later_place) (sym q.0) r)
    moved (inr r) = inr (q.0 ∙ r.0, subst (λ z. IsBefore z b.earlier_place) (sym q.1) r.1)

same_place : (a b : Place) → a.line ≡ b.line → a.column ≡ b.column → a ≡ b
same_place a b e f = ap₂ (λ (l c : ℕ). let z : Place = record { line = l; column = c } in z) e f

numbers : (m n : ℕ) → (m < n) ⊎ ((m ≡ n) ⊎ (n < m))
numbers m n = grind arith

-- of two places one is before the other, or they are one
compared : (a b : Place) → IsBefore a b ⊎ ((a ≡ b) ⊎ IsBefore b a)
compared a b = elim (numbers a.line b.line) as (λ _. IsBefore a b ⊎ ((a ≡ b) ⊎ IsBefore b a)) [
  | inl l ↦ inl (inl l)
  | inr (inl e) ↦ elim (numbers a.column b.column) as (λ _. IsBefore a b
      ⊎ ((a ≡ b) ⊎ IsBefore b a)) [
        | inl l ↦ inl (inr (e, l))
        | inr (inl f) ↦ inr (inl (same_place a b e f))
        | inr (inr l) ↦ inr (inr (inr (sym e, l)))
      ]
  | inr (inr l) ↦ inr (inr (inl l))
]

-- what comes before one comes before what doesn't come before that
by_places_to : (o b n : Spot) → ByPlaces o b → (ByPlaces n b → ⊥) → ByPlaces o n
by_places_to o b n p w = elim (compared n.later_place b.later_place) as (λ _. ByPlaces o n) [
  | inl l ↦ absurd (w (inl l))
  | inr (inl e) ↦ elim (compared n.earlier_place b.earlier_place) as (λ _. ByPlaces o n) [
    | inl l ↦ absurd (w (inr (e, l)))
    | inr (inl f) ↦ at_one e f p
    | inr (inr l) ↦ by_places_through o b n p (inr (sym e, l))
  ]
  | inr (inr l) ↦ by_places_through o b n p (inl l)
]
  where
    at_one : n.later_place ≡ b.later_place → n.earlier_place ≡ b.earlier_place → ByPlaces o b
        → ByPlaces o n
    at_one e f (inl q) = inl (subst (IsBefore o.later_place) (sym e) q)
    at_one e f (inr q) = inr (q.0 ∙ sym e, subst (IsBefore o.earlier_place) (sym f) q.1)

-- no pair behind one that is kept stands before it, if it doesn't stand before the first of those
-- behind, whose places don't come first
pub not_before_kept : (o n b : Spot) → (ByPlaces n b → ⊥) → (StandsBefore o n → ⊥) → ByPositions b o
    → StandsBefore o b → ⊥
not_before_kept o n b w f p (inl q) = f (inl (by_places_to o b n q w))
not_before_kept o n b w f p (inr q) = by_positions_not_back b o p q.2

-- no pair stands before itself
pub not_before_itself : (a b : Spot) → a.later_place ≡ b.later_place
    → a.earlier_place ≡ b.earlier_place → a.number ≡ b.number → a.later ≡ b.later
    → a.earlier ≡ b.earlier
    → StandsBefore a b → ⊥
not_before_itself a b e f k l m (inl p) = by_places_itself a b e f p
not_before_itself a b e f k l m (inr q) = in_place q.2
  where
    in_place : ByPositions a b → ⊥
    in_place p = grind arith

-- what the code compares are the places of two pairs
pub by_places : (x b : Spot) (found held : BrokenPair) → found.later ≡ x.later_place
    → found.earlier ≡ x.earlier_place → held.later ≡ b.later_place → held.earlier ≡ b.earlier_place
    → IsSooner found held → ByPlaces x b
by_places x b found held e f g k (inl p) =
    inl (subst (λ z. IsBefore z b.later_place) e (subst (IsBefore found.later) g p))
by_places x b found held e f g k (inr p) =
    inr (
      sym e ∙ p.0
          ∙ g,
      subst (λ z. IsBefore z b.earlier_place) f (subst (IsBefore found.earlier) k p.1),
    )

pub by_found : (x b : Spot) (found held : BrokenPair) → found.later ≡ x.later_place
    → found.earlier ≡ x.earlier_place → held.later ≡ b.later_place → held.earlier ≡ b.earlier_place
    → ByPlaces x b → IsSooner found held
by_found x b found held e f g k (inl p) =
    inl (subst (λ z. IsBefore z held.later) (sym e) (subst (IsBefore x.later_place) (sym g) p))
by_found x b found held e f g k (inr p) =
    inr (
      e ∙ p.0
          ∙ sym g,
      subst (λ z. IsBefore z held.earlier) (sym f)
          (subst (IsBefore x.earlier_place) (sym k) p.1),
    )
