-- The chapter "Places": the order of places in a file, and the earliest of those that break a rule.
-- The code keeps the earliest so far.
use Rattle.std.specs.Prelude.{◌≡◌, ◌⊎◌, ◌<◌, ◌&&◌, ◌||◌, Bool, nat_lt, nat_eq, Option, Some, None}
use Rattle.fort_base.specs.declared.refusal.Place.{Place}

-- One place stands before another in a file.
abbrev pub IsBefore : Place → Place → Type 0
IsBefore a b = (a.line < b.line) ⊎ ((a.line ≡ b.line) × (a.column < b.column))

-- The test whether one place stands before another.
abbrev pub is_before : Place → Place → Bool
is_before a b = nat_lt a.line b.line || (nat_eq a.line b.line && nat_lt a.column b.column)

-- A place is the earliest of those that break a rule.
pub record IsEarliest (Breaks : Place → Type 0) (place : Place) : Type 0 where
  pub breaks : Breaks place
  pub none_before : (other : Place) → Breaks other → IsBefore other place → ⊥

-- The earliest of the places that break a rule, or none where no place breaks it.
abbrev pub IsFirst : (Place → Type 0) → Option Place → Type 0
IsFirst Breaks None = (place : Place) → Breaks place → ⊥
IsFirst Breaks (Some place) = IsEarliest Breaks place

-- What is kept of a place so far and a further one.
abbrev pub Keeps : Option Place → Place → Option Place → Type 0
Keeps None place kept = kept ≡ Some place
Keeps (Some best) place kept = (IsBefore best place × (kept ≡ Some best))
    ⊎ ((IsBefore best place → ⊥) × (kept ≡ Some place))

-- What is kept of two places each of which may be wanting.
abbrev pub KeepsAny : Option Place → Option Place → Option Place → Type 0
KeepsAny best None kept = kept ≡ best
KeepsAny best (Some place) kept = Keeps best place kept
