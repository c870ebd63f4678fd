-- The chapter "Operators": the grouping of the flat expression that begins at a place. The code
-- looks it up by halves.
use Rattle.std.specs.Prelude.{◌≡◌, ℕ, suc, slice_get, List, [], ◌∷◌, Option, Some, None, cond, Bool, ◌&&◌, nat_eq, IsTrue}
use Rattle.fort_base.specs.Places.{is_before}
use Rattle.fort_base.specs.declared.refusal.Place.{Place}
use Rattle.fort_tree.specs.declared.grouped.FlatGrouping.{FlatGrouping}
use Rattle.fort_tree.specs.declared.grouped.Grouped.{Grouped}

-- whether two places are one
abbrev pub same_place : Place → Place → Bool
same_place p q = nat_eq p.line q.line && nat_eq p.column q.column

-- The grouping of the flat expression that begins at a place, where one does.
abbrev pub grouping_at : List FlatGrouping → Place → Option Grouped
grouping_at [] place = None
grouping_at (g ∷ groups) place =
    cond (same_place g.place place) (Some g.grouped) (grouping_at groups place)

-- Each grouping stands before the next one.
abbrev pub InOrder : List FlatGrouping → Type 0
InOrder groups = (n : ℕ) (g next : FlatGrouping) → slice_get groups n ≡ Some g
    → slice_get groups (suc n) ≡ Some next → IsTrue (is_before g.place next.place)
