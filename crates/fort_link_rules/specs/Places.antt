-- The chapter "Components and APIs": the places at which a rule is broken. The code gathers them in
-- a list, of which the earliest is reported.
use Rattle.std.specs.Prelude.{◌≡◌, ◌⊎◌, ◌↔◌, Bool, IsTrue, List, Contains}
use Rattle.fort_base.specs.declared.refusal.Place.{Place}

-- To the places of a list came those that break a rule.
abbrev pub Gathers : (Place → Type 0) → List Place → List Place → Type 0
Gathers Breaks old new =
    (place : Place) → Contains new place ↔ (Contains old place ⊎ Breaks place)

-- The one place, where something is so.
abbrev pub IsThere : Bool → Place → Place → Type 0
IsThere broken at place = IsTrue broken × (at ≡ place)
