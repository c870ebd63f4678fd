-- Chapter "Accepted programs": what an accepted hierarchy gives of the rows that a run asks. The
-- check closes the rows once.
use Rattle.std.specs.Prelude.{◌≡◌, ◌↔◌, ℕ, true, false, length, IsTrue}
use Rattle.fort_base.specs.declared.table.TypeTable.{TypeTable}
use Rattle.fort_base.specs.declared.ty.Ty.{Ty}
use Rattle.fort_types.specs.Hierarchy.{DeclaredTypes, Leaf}
use Rattle.fort_types.specs.Types.{Below, IsNumbered}
use Rattle.fort_types.specs.Relation.{relation}
use Rattle.fort_types.specs.Hierarchy as hierarchy
use Rattle.fort_types.specs.Table.{is_set, HasRows}
use Rattle.fort_sound_typed.specs.Sound.{RowsThrough}

-- The rows of an accepted hierarchy go through a third type, and have nothing below an object or a
-- leaf but itself.
abbrev pub RowsOfHierarchy : Type 0
RowsOfHierarchy = (h : DeclaredTypes) (table : TypeTable) → hierarchy.Sound h → HasRows h table
    → RowsThrough table.below × ((i j : ℕ) → Leaf h j → IsTrue (is_set table.below i j) → i ≡ j)

-- The rows of an accepted hierarchy compute below, one way round or the other, of a numbered type
-- and any other one.
abbrev pub RelationFromOne : Type 0
RelationFromOne = (h : DeclaredTypes) (table : TypeTable) → hierarchy.Sound h → HasRows h table
    → (a b : Ty) → IsNumbered (length h) a
    → (IsTrue (relation table.below a true b) ↔ Below h a b)
    × (IsTrue (relation table.below a false b) ↔ Below h b a)
