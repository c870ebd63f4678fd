-- What the forms of a component hang on beside its trees. The code looks it up in tables.
use Rattle.std.specs.Prelude.{Option}
use Rattle.fort_base.specs.declared.ids.NameId.{NameId}
use Rattle.fort_base.specs.declared.refusal.Place.{Place}
use Rattle.fort_base.specs.declared.ty.Ty.{Ty}
use Rattle.fort_tree.specs.declared.grouped.Grouped.{Grouped}
use Rattle.fort_tree.specs.declared.types.TypeTree.{TypeTree}

-- The type that a tree writes, the grouping of the flat expression that begins at a place, where
-- one does, and the number of the name `spawn'` of the function that spawns threads.
pub record Source : Type 0 where
  pub written : TypeTree → Ty
  pub grouping : Place → Option Grouped
  pub spawning : NameId
