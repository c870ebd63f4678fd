-- The chapter "Overload rules": where pairs of declarations stand, and which of those that break a
-- rule stands first. The code walks the sets once.
use Rattle.std.specs.Prelude.{◌≡◌, ◌⊎◌, ◌<◌, ℕ, List, Option, Some, None, slice_get}
use Rattle.fort_base.specs.declared.refusal.Place.{Place}
use Rattle.fort_base.specs.Places.{IsBefore}
use Rattle.fort_types.specs.Hierarchy.{DeclaredTypes}
use Rattle.fort_types_sets.specs.declared.member.Member.{Member}
use Rattle.fort_types_sets.specs.declared.member.MemberSet.{MemberSet}
use Rattle.fort_types_sets.specs.Pairs.{Breaks}
use Rattle.fort_types_sets.specs.Rules.{StandsAt}

-- Where something stands that has this place; what has none is built in and stands at line 1,
-- column 1.
abbrev pub standing : Option Place → Place
standing None = record { line = 1; column = 1 }
standing (Some place) = place

-- Where a pair of declarations stands: the places of the later and of the earlier one, the number
-- of their set, and their positions in it.
pub record Spot : Type 0 where
  pub later_place : Place
  pub earlier_place : Place
  pub number : ℕ
  pub later : ℕ
  pub earlier : ℕ

-- The later declaration's place comes first in the file or, where these are one, the earlier
-- declaration's.
abbrev pub ByPlaces : Spot → Spot → Type 0
ByPlaces a b = IsBefore a.later_place b.later_place
    ⊎ ((a.later_place ≡ b.later_place) × IsBefore a.earlier_place b.earlier_place)

-- The set comes first or, in one set, the later declaration or, where that is one, the earlier
-- declaration.
abbrev pub ByPositions : Spot → Spot → Type 0
ByPositions a b = (a.number < b.number)
    ⊎ ((a.number ≡ b.number)
    × ((a.later < b.later) ⊎ ((a.later ≡ b.later) × (a.earlier < b.earlier))))

-- One pair stands before another: by their places or, where these are the same, by the order of the
-- sets and in them.
abbrev pub StandsBefore : Spot → Spot → Type 0
StandsBefore a b = ByPlaces a b
    ⊎ ((a.later_place ≡ b.later_place) × (a.earlier_place ≡ b.earlier_place) × ByPositions a b)

-- Two declarations of a set stand at two positions of it.
pub record IsPair (spot : Spot) (s : MemberSet) (p q : Member) : Type 0 where
  pub earlier : StandsAt s spot.earlier p
  pub later : StandsAt s spot.later q
  pub in_order : spot.earlier < spot.later
  pub earlier_place : spot.earlier_place ≡ standing p.place
  pub later_place : spot.later_place ≡ standing q.place

-- A choice of pairs of declarations, each with its set and where it stands.
abbrev pub Pairs : Type 1
Pairs = Spot → MemberSet → Member → Member → Type 0

-- The pairs of some sets.
abbrev pub pairs_of : List MemberSet → Pairs
pairs_of sets spot s p q = (slice_get sets spot.number ≡ Some s) × IsPair spot s p q

-- A pair breaks a rule, and none of these that breaks one stands before it.
pub record IsFirstBroken (h : DeclaredTypes) (pairs : Pairs) (rule : ℕ) (spot : Spot) : Type 0 where
  pub s : MemberSet
  pub p : Member
  pub q : Member
  pub asked : pairs spot s p q
  pub breaks : Breaks h s p q rule
  pub none_before : (other : Spot) (t : MemberSet) (x y : Member) (number : ℕ) → pairs other t x y
      → Breaks h t x y number → StandsBefore other spot → ⊥

-- None of these pairs breaks a rule.
abbrev pub NoneBroken : DeclaredTypes → Pairs → Type 0
NoneBroken h pairs = (spot : Spot) (s : MemberSet) (p q : Member) (rule : ℕ) → pairs spot s p q
    → Breaks h s p q rule → ⊥
