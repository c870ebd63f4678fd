-- The chapter "Operators": the units of a grouping stand in it in their order.
use Rattle.std.specs.Prelude.{◌≡◌, ℕ, zero, suc, ◌+◌, List, [], ◌∷◌, ◌++◌}
use Rattle.fort_tree.specs.declared.grouped.Joint.{Joint}
use Rattle.fort_tree.specs.declared.grouped.Grouped.{Grouped, fold-Grouped}
use Rattle.fort_tree.specs.declared.grouped.Grouped.TheOpen.{Grouped-F}
use Rattle.fort_group.specs.Grouping.{IsGrouping}

-- lists one after another
abbrev pub all_of : List (List ℕ) → List ℕ
all_of [] = []
all_of (u ∷ us) = u ++ all_of us

-- the units of a node from those of its children
abbrev pub units_step : Grouped-F (List ℕ) → List ℕ
units_step (Grouped-F.Unit n) = n ∷ []
units_step (Grouped-F.Binary op l r) = l ++ r
units_step (Grouped-F.Chain ops parts) = all_of parts
units_step (Grouped-F.Juxt units) = units

-- the units of a tree, from left to right
abbrev pub units_of : Grouped → List ℕ
units_of t = fold-Grouped (List ℕ) units_step t

-- n numbers from i on
abbrev pub counted : ℕ → ℕ → List ℕ
counted i zero = []
counted i (suc n) = i ∷ counted (i + 1) n

-- the units of a grouping from i to j are the n numbers from i on
abbrev pub UnitsInOrder : Type 0
UnitsInOrder = (joints : List Joint) (i j n : ℕ) (t : Grouped) → IsGrouping joints i j t
    → j + 1 ≡ i + n → units_of t ≡ counted i n
