-- The chapter "Grammar", trees apart from places: types with their places moved, and lists of
-- parameters.
use Rattle.std.specs.Prelude.{map}
use Rattle.fort_base.specs.declared.refusal.Place.{Place}
use Rattle.fort_tree.specs.declared.declarations.NextParameter.{NextParameter}
use Rattle.fort_tree.specs.declared.declarations.Parameter.{Parameter}
use Rattle.fort_tree.specs.declared.declarations.Parameters.{Parameters}
use Rattle.fort_tree.specs.declared.types.SimpleType.{SimpleType}
use Rattle.fort_tree.specs.declared.types.TypeTree.{TypeTree}
use Rattle.fort_tree.specs.declared.types.NextType.{NextType}
use Rattle.fort_tree.specs.declared.types.TypeList.{TypeList}
use Rattle.fort_tree.specs.declared.types.SimpleType.TheOpen.{SimpleType-F, TypeTree-F, NextType-F, TypeList-F}
use Rattle.fort_tree.specs.declared.types.SimpleType.TheFolds.{fold-SimpleType, fold-TypeTree, fold-NextType, fold-TypeList}
use Rattle.fort_tree.specs.declared.types.SimpleType.TheViews.{roll-SimpleType, roll-TypeTree, roll-NextType, roll-TypeList}
use Rattle.fort_tree_law_moved.specs.Spots.{moved_spot, moved_name}

module _ (g : Place → Place) {S T N L : Type 0} where
  -- one level of a simple type
  abbrev pub simple_type_level : SimpleType-F S T N L → SimpleType-F S T N L
  simple_type_level (SimpleType-F.Named n) = SimpleType-F.Named (moved_name g n)
  simple_type_level (SimpleType-F.Array array left element comma index right) =
      SimpleType-F.Array (moved_name g array) (moved_spot g left) element (moved_spot g comma)
      (moved_name g index) (moved_spot g right)
  simple_type_level (SimpleType-F.Parts left parts right) =
      SimpleType-F.Parts (moved_spot g left) parts (moved_spot g right)

  -- one level of a type
  abbrev pub type_level : TypeTree-F S T N L → TypeTree-F S T N L
  type_level (TypeTree-F.Simple simple) = TypeTree-F.Simple simple
  type_level (TypeTree-F.Arrow domain arrow result) =
      TypeTree-F.Arrow domain (moved_spot g arrow) result

  -- one level of a further type of a list
  abbrev pub next_type_level : NextType-F S T N L → NextType-F S T N L
  next_type_level l = record { comma = moved_spot g l.comma; ty = l.ty }

  -- one level of a list of types
  abbrev pub type_list_level : TypeList-F S T N L → TypeList-F S T N L
  type_list_level l = record { first = l.first; others = l.others }

-- ---- trees: each level moved, and rolled up again

module _ (g : Place → Place) where
  -- one level of a simple type, as a tree
  abbrev pub move_simple_type : SimpleType-F SimpleType TypeTree NextType TypeList → SimpleType
  move_simple_type l = roll-SimpleType (simple_type_level g l)

  -- one level of a type, as a tree
  abbrev pub move_type : TypeTree-F SimpleType TypeTree NextType TypeList → TypeTree
  move_type l = roll-TypeTree (type_level g l)

  -- one level of a further type of a list, as a tree
  abbrev pub move_next_type : NextType-F SimpleType TypeTree NextType TypeList → NextType
  move_next_type l = roll-NextType (next_type_level g l)

  -- one level of a list of types, as a tree
  abbrev pub move_type_list : TypeList-F SimpleType TypeTree NextType TypeList → TypeList
  move_type_list l = roll-TypeList (type_list_level g l)

  -- a simple type, at every depth
  unfoldable pub moved_simple_type : SimpleType → SimpleType
  moved_simple_type =
      fold-SimpleType SimpleType TypeTree NextType TypeList move_simple_type move_type
      move_next_type move_type_list

  -- a type, at every depth
  unfoldable pub moved_type : TypeTree → TypeTree
  moved_type =
      fold-TypeTree SimpleType TypeTree NextType TypeList move_simple_type move_type move_next_type
      move_type_list

  -- a further type of a list, at every depth
  unfoldable pub moved_next_type : NextType → NextType
  moved_next_type =
      fold-NextType SimpleType TypeTree NextType TypeList move_simple_type move_type move_next_type
      move_type_list

  -- a list of types, at every depth
  unfoldable pub moved_type_list : TypeList → TypeList
  moved_type_list =
      fold-TypeList SimpleType TypeTree NextType TypeList move_simple_type move_type move_next_type
      move_type_list

-- ---- parameters

module _ (g : Place → Place) where
  -- a parameter
  abbrev pub moved_parameter : Parameter → Parameter
  moved_parameter p =
      record { name = moved_name g p.name; colon = moved_spot g p.colon; ty = moved_type g p.ty }

  -- a further parameter
  abbrev pub moved_next_parameter : NextParameter → NextParameter
  moved_next_parameter next =
      record { comma = moved_spot g next.comma; parameter = moved_parameter next.parameter }

  -- a list of parameters
  abbrev pub moved_parameters : Parameters → Parameters
  moved_parameters list =
      record { first = moved_parameter list.first; others = map moved_next_parameter list.others }
