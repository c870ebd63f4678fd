-- The chapter "Operators", its rule of spacing. The code asks it in one walk, part by part.
use Rattle.std.specs.Prelude.{◌≡◌, ℕ, Bool, true, false, not, cond, nat_eq, ◌-◌, List, [], ◌∷◌, slice_get, Option, Some, None, All, ◌⊎◌}
use Rattle.std.specs.List.{list_any}
use Rattle.fort_base.specs.declared.refusal.Gap.{Gap}
use Rattle.fort_base.specs.declared.refusal.Gap.TheVariants.{Empty, Space, Line}
use Rattle.fort_base.specs.declared.refusal.Place.{Place}
use Rattle.fort_tree.specs.declared.grouped.Joint.{Joint}
use Rattle.fort_tree.specs.declared.grouped.Joint.TheVariants.{Beside, Behind}
use Rattle.fort_tree.specs.declared.grouped.Grouped.{Grouped, out-Grouped, fold-Grouped}
use Rattle.fort_tree.specs.declared.grouped.Grouped.TheOpen.{Grouped-F}
use Rattle.fort_group.specs.Nodes.{Everywhere}

-- the two differ
abbrev pub differ : Bool → Bool → Bool
differ true b = not b
differ false b = b

-- a gap stands there
abbrev pub is_gap : Gap → Bool
is_gap Empty = false
is_gap Space = true
is_gap Line = true

-- the place of an infix operator with a gap on one side only
abbrev pub mixed_place : Joint → Option Place
mixed_place Beside = None
mixed_place (Behind sign after) =
    cond (differ (is_gap sign.spot.gap) (is_gap after)) (Some sign.spot.place) None

-- a place that is there, or the other
abbrev pub or_else : Option Place → Option Place → Option Place
or_else (Some place) other = Some place
or_else None other = other

-- the place of the first operator with a gap on one side only
abbrev pub first_mixed : List Joint → Option Place
first_mixed [] = None
first_mixed (joint ∷ joints) = or_else (mixed_place joint) (first_mixed joints)

-- the operator of a joint is loose; a juxtaposition always is
abbrev pub loose_joint : Joint → Bool
loose_joint Beside = true
loose_joint (Behind sign after) = is_gap sign.spot.gap

-- the operator of a joint that is there is loose
abbrev pub loose_in : Option Joint → Bool
loose_in (Some joint) = loose_joint joint
loose_in None = false

-- the operator before this unit is loose
abbrev pub loose_before : List Joint → ℕ → Bool
loose_before joints n = cond (nat_eq n 0) false (loose_in (slice_get joints (n - 1)))

-- a number that is there, or 0
abbrev pub first_unit : Option ℕ → ℕ
first_unit (Some n) = n
first_unit None = 0

-- the first unit of a node from those of its children
abbrev pub first_step : Grouped-F ℕ → ℕ
first_step (Grouped-F.Unit n) = n
first_step (Grouped-F.Binary op left right) = left
first_step (Grouped-F.Chain ops parts) = first_unit (slice_get parts 0)
first_step (Grouped-F.Juxt units) = first_unit (slice_get units 0)

-- the first unit of a tree
abbrev pub first_of : Grouped → ℕ
first_of t = fold-Grouped ℕ first_step t

-- a node's operator stands before each of its parts but the first: this one's is loose
abbrev pub follows_loose : List Joint → Grouped → Bool
follows_loose joints part = loose_before joints (first_of part)

-- a juxtaposition, or a node with a loose operator
abbrev pub loose_at : List Joint → Grouped-F Grouped → Bool
loose_at joints (Grouped-F.Unit n) = false
loose_at joints (Grouped-F.Juxt units) = true
loose_at joints (Grouped-F.Binary op left right) = follows_loose joints right
loose_at joints (Grouped-F.Chain ops []) = false
loose_at joints (Grouped-F.Chain ops (part ∷ parts)) = list_any (follows_loose joints) parts

-- the tree is a juxtaposition, or has a loose operator at its root
abbrev pub is_loose : List Joint → Grouped → Bool
is_loose joints t = loose_at joints (out-Grouped t)

-- a tight operator has no loose child, and the operators of a chain are all loose or all tight
abbrev pub AgreesAt : List Joint → Grouped-F Grouped → Type 0
AgreesAt joints (Grouped-F.Unit n) = Unit {0}
AgreesAt joints (Grouped-F.Juxt units) = Unit {0}
AgreesAt joints (Grouped-F.Binary op left right) = follows_loose joints right ≡ false
    → (is_loose joints left ≡ false) × (is_loose joints right ≡ false)
AgreesAt joints (Grouped-F.Chain ops []) = Unit {0}
AgreesAt joints (Grouped-F.Chain ops (part ∷ parts)) =
    All (λ p. follows_loose joints p ≡ true) parts
    ⊎ (All (λ p. follows_loose joints p ≡ false) parts
    × All (λ p. is_loose joints p ≡ false) (part ∷ parts))

-- the spacing agrees with the grouping
abbrev pub Agrees : List Joint → Grouped → Type 0
Agrees joints tree = Everywhere (AgreesAt joints) tree
