-- The chapter "Overload rules": what the code's walks have found so far, of pairs and of objects.
use Rattle.std.specs.Prelude.{◌≡◌, ◌≢◌, ◌⊎◌, ◌<◌, ◌↔◌, ℕ, Bool, IsTrue, Option, Some, None, List, slice_get, slice_set, get_or}
use Rattle.fort_base.specs.declared.ids.TypeId.{TypeId}
use Rattle.fort_base.specs.declared.refusal.Place.{Place}
use Rattle.fort_base.specs.declared.table.TypeTable.{TypeTable}
use Rattle.fort_base.specs.declared.ty.Ty.{Ty}
use Rattle.fort_base.specs.Places.{IsBefore, IsFirst}
use Rattle.fort_types.specs.Hierarchy.{DeclaredTypes, Sound}
use Rattle.fort_types.specs.Types.{Below}
use Rattle.fort_types.specs.Table.{HasRows}
use Rattle.fort_types_sets.specs.declared.member.Member.{Member}
use Rattle.fort_types_sets.specs.declared.member.MemberKind.TheVariants as a_kind
use Rattle.fort_types_sets.specs.declared.member.MemberSet.{MemberSet}
use Rattle.fort_types_sets.specs.declared.member.Members.{Members}
use Rattle.fort_types_sets.specs.Applicable.{Along, IsMoreSpecific}
use Rattle.fort_types_sets.specs.Coverage.{IsAbstractOf, IsObjectBelow, IsCovered}
use Rattle.fort_types_sets.specs.Leaves.{leaves_of}
use Rattle.fort_types_sets.specs.Pairs.{Passes, Breaks}
use Rattle.fort_types_sets.specs.Rules.{StandsAt, IsWellMade}
use Rattle.fort_over.specs.declared.places.BrokenPair.{BrokenPair}
use Rattle.fort_over.specs.Standing.{standing, Spot, Pairs, IsPair, IsFirstBroken}

-- ---- pairs

-- One broken pair's places come before another's.
abbrev pub IsSooner : BrokenPair → BrokenPair → Type 0
IsSooner a b = IsBefore a.later b.later ⊎ ((a.later ≡ b.later) × IsBefore a.earlier b.earlier)

-- What the code keeps of what was found so far and what was found behind it.
abbrev pub Keeps : Option BrokenPair → Option BrokenPair → Option BrokenPair → Type 0
Keeps best None kept = kept ≡ best
Keeps None (Some next) kept = kept ≡ Some next
Keeps (Some best) (Some next) kept = (IsSooner next best × (kept ≡ Some next))
    ⊎ ((IsSooner next best → ⊥) × (kept ≡ Some best))

-- What two declarations break, with their places.
abbrev pub IsJudged : DeclaredTypes → MemberSet → Member → Member → Option BrokenPair → Type 0
IsJudged h s p q None = Passes h s p q
IsJudged h s p q (Some pair) = Breaks h s p q pair.rule.0 × (pair.later ≡ standing q.place)
    × (pair.earlier ≡ standing p.place)

-- The first of these pairs that breaks a rule, or none where each passes.
abbrev pub IsBest : DeclaredTypes → Pairs → Option BrokenPair → Type 0
IsBest h pairs None = (spot : Spot) (s : MemberSet) (p q : Member) → pairs spot s p q
    → Passes h s p q
IsBest h pairs (Some b) = (spot : Spot) × (b.later ≡ spot.later_place)
    × (b.earlier ≡ spot.earlier_place) × IsFirstBroken h pairs b.rule.0 spot

-- The pairs of the first ones of a row of choices.
abbrev pub PairsAmong : (ℕ → Pairs) → ℕ → Pairs
PairsAmong Q to spot s p q = (k : ℕ) × (k < to) × Q k spot s p q

-- The pair of a set at two positions.
abbrev pub PairAt : ℕ → MemberSet → ℕ → ℕ → Pairs
PairAt n set later earlier spot s p q = (s ≡ set) × (spot.number ≡ n) × (spot.later ≡ later)
    × (spot.earlier ≡ earlier) × IsPair spot s p q

-- The pairs of a set with the later declaration at a position.
abbrev pub PairsWith : ℕ → MemberSet → ℕ → Pairs
PairsWith n set later spot s p q = (s ≡ set) × (spot.number ≡ n) × (spot.later ≡ later)
    × IsPair spot s p q

-- The pairs of the set with a number.
abbrev pub PairsIn : List MemberSet → ℕ → Pairs
PairsIn sets n spot s p q = (slice_get sets n ≡ Some s) × (spot.number ≡ n) × IsPair spot s p q

-- The best so far of the pairs with the later declaration at a position.
pub record RowBest (table : TypeTable) (set : MemberSet) (later to : ℕ)
    (best : Option BrokenPair) : Type 0 where
  pub told : (h : DeclaredTypes) → Sound h → HasRows h table → IsWellMade h set → (n : ℕ)
      → IsBest h (PairsAmong (PairAt n set later) to) best

-- The best so far of the pairs of a set.
pub record SetBest (table : TypeTable) (set : MemberSet) (to : ℕ)
    (best : Option BrokenPair) : Type 0 where
  pub told : (h : DeclaredTypes) → Sound h → HasRows h table → IsWellMade h set → (n : ℕ)
      → IsBest h (PairsAmong (PairsWith n set) to) best

-- Each of these sets is what a component's sets are.
abbrev pub AreMade : DeclaredTypes → List MemberSet → Type 0
AreMade h sets = (n : ℕ) (s : MemberSet) → slice_get sets n ≡ Some s → IsWellMade h s

-- The best so far of the pairs of the sets.
pub record SetsBest (table : TypeTable) (sets : List MemberSet) (to : ℕ)
    (best : Option BrokenPair) : Type 0 where
  pub told : (h : DeclaredTypes) → Sound h → HasRows h table → AreMade h sets
      → IsBest h (PairsAmong (PairsIn sets) to) best

-- ---- objects

-- A declaration covers an abstract one, with a type in the owner's place.
abbrev pub Covers : DeclaredTypes → Member → Member → ℕ → Ty → Type 0
Covers h e d at object = (e.kind ≢ a_kind.Abstract) × IsMoreSpecific h e d
    × Below h e.result d.result × Along (Below h) (slice_set d.parameters at object) e.parameters

-- Some of these declarations covers one.
abbrev pub SomeCovers : DeclaredTypes → List Member → Member → ℕ → Ty → Type 0
SomeCovers h members d at object = (k : ℕ) × (e : Member) × (slice_get members k ≡ Some e)
    × Covers h e d at object

-- An object that a declaration isn't covered for, and its place.
abbrev pub UncoveredAt : DeclaredTypes → Members → MemberSet → Member → ℕ → TypeId → ℕ → Place
    → Type 0
UncoveredAt h m s d at t number place = (o : TypeId) × (o.0 ≡ number) × IsObjectBelow h o t
    × (IsCovered h s d at o → ⊥) × (place ≡ standing (get_or m.places number None))

-- The place of an object below its type that a declaration isn't covered for.
abbrev pub UncoveredOf : DeclaredTypes → Members → MemberSet → Member → Place → Type 0
UncoveredOf h m s d place = (at : ℕ) × (t : TypeId) × IsAbstractOf d at t
    × ((number : ℕ) × UncoveredAt h m s d at t number place)

-- The same of the declaration at a position.
abbrev pub UncoveredIn : DeclaredTypes → Members → MemberSet → ℕ → Place → Type 0
UncoveredIn h m s i place = (d : Member) × StandsAt s i d × UncoveredOf h m s d place

-- The same of the set with a number.
abbrev pub UncoveredBy : DeclaredTypes → Members → ℕ → Place → Type 0
UncoveredBy h m n place = (s : MemberSet) × (slice_get m.sets n ≡ Some s)
    × ((i : ℕ) × UncoveredIn h m s i place)

-- Among the first ones of a row.
abbrev pub PlacesAmong : (ℕ → Place → Type 0) → ℕ → Place → Type 0
PlacesAmong Q to place = (k : ℕ) × (k < to) × Q k place

-- The table and the list of objects are those of a hierarchy.
abbrev pub AreOf : DeclaredTypes → TypeTable → Members → Type 0
AreOf h table m = HasRows h table × (m.objects ≡ leaves_of h)

-- Whether a type is an object or a leaf below another.
pub record IsObjectOf (table : TypeTable) (m : Members) (o t : TypeId) (is : Bool) : Type 0 where
  pub told : (h : DeclaredTypes) → AreOf h table m → IsTrue is ↔ IsObjectBelow h o t

-- A declaration is covered for each object below its type, if it is abstract.
abbrev pub AreCoveredFor : DeclaredTypes → MemberSet → Member → Type 0
AreCoveredFor h s d = (at : ℕ) (t o : TypeId) → IsAbstractOf d at t → IsObjectBelow h o t
    → IsCovered h s d at o

-- The earliest place so far of the objects below an owner; where there is none the declaration is
-- covered for each so far.
pub record ObjectsFirst (table : TypeTable) (m : Members) (s : MemberSet) (d : Member) (at : ℕ)
    (t : TypeId) (to : ℕ) (best : Option Place) : Type 0 where
  pub told : (h : DeclaredTypes) → AreOf h table m
      → IsFirst (PlacesAmong (UncoveredAt h m s d at t) to) best
  pub covered : (h : DeclaredTypes) → AreOf h table m → best ≡ None → (o : TypeId) → o.0 < to
      → IsObjectBelow h o t → IsCovered h s d at o

-- The earliest place of a declaration; where there is none it is covered.
pub record DeclarationFirst (table : TypeTable) (m : Members) (s : MemberSet) (d : Member)
    (best : Option Place) : Type 0 where
  pub told : (h : DeclaredTypes) → AreOf h table m → IsFirst (UncoveredOf h m s d) best
  pub covered : (h : DeclaredTypes) → AreOf h table m → best ≡ None → AreCoveredFor h s d

-- The earliest place so far of the declarations of a set; where there is none each so far is
-- covered.
pub record SetFirst (table : TypeTable) (m : Members) (s : MemberSet) (to : ℕ)
    (best : Option Place) : Type 0 where
  pub told : (h : DeclaredTypes) → AreOf h table m
      → IsFirst (PlacesAmong (UncoveredIn h m s) to) best
  pub covered : (h : DeclaredTypes) → AreOf h table m → best ≡ None → (i : ℕ) (d : Member) → i < to
      → StandsAt s i d → AreCoveredFor h s d

-- The earliest place so far of the sets; where there is none each declaration so far is covered.
pub record SetsFirst (table : TypeTable) (m : Members) (to : ℕ) (best : Option Place) : Type 0 where
  pub told : (h : DeclaredTypes) → AreOf h table m → IsFirst (PlacesAmong (UncoveredBy h m) to) best
  pub covered : (h : DeclaredTypes) → AreOf h table m → best ≡ None
      → (n i : ℕ) (s : MemberSet) (d : Member) → n < to → slice_get m.sets n ≡ Some s
      → StandsAt s i d
      → AreCoveredFor h s d
