-- The chapter "Threads that are spawned": whether a component starts, so that its `run`
-- is called by the prelude's. The code goes down the type that a result is written as.
use Rattle.std.specs.Prelude.{Bool, true, false, ◌&&◌, List, [], ◌∷◌, Option, Some, None}
use Rattle.std.specs.List.{list_any}
use Rattle.fort_tree.specs.declared.declarations.Component.{Component}
use Rattle.fort_tree.specs.declared.declarations.Declaration.{Declaration}
use Rattle.fort_tree.specs.declared.declarations.Declaration.TheVariants as declaration
use Rattle.fort_tree.specs.declared.declarations.Declared.{Declared}
use Rattle.fort_tree.specs.declared.declarations.Function.{Function}
use Rattle.fort_tree.specs.declared.declarations.FunctionName.{FunctionName}
use Rattle.fort_tree.specs.declared.declarations.FunctionName.TheVariants as function_name
use Rattle.fort_tree.specs.declared.declarations.Parameters.{Parameters}
use Rattle.fort_tree.specs.declared.types.NextType.{NextType}
use Rattle.fort_tree.specs.declared.types.SimpleType.{SimpleType}
use Rattle.fort_tree.specs.declared.types.TypeList.{TypeList}
use Rattle.fort_tree.specs.declared.types.TypeTree.{TypeTree}
use Rattle.fort_tree.specs.declared.types.SimpleType.TheOpen.{SimpleType-F, TypeTree-F, NextType-F, TypeList-F}
use Rattle.fort_tree.specs.declared.types.SimpleType.TheFolds.{fold-SimpleType, fold-TypeTree, fold-NextType, fold-TypeList}
use Rattle.fort_tree.specs.Tokens.{Spellings, is_spelled}

-- ---- the type `()`, however it is written: no parts in parentheses, or one part that is it

-- of what stands in parentheses
abbrev pub parts_are_unit : Option Bool → Bool
parts_are_unit None = true
parts_are_unit (Some parts) = parts

abbrev pub unit_simple : SimpleType-F Bool Bool Bool Bool → Bool
unit_simple (SimpleType-F.Named name) = false
unit_simple (SimpleType-F.Array array left element comma index right) = false
unit_simple (SimpleType-F.Parts left parts right) = parts_are_unit parts

abbrev pub unit_tree : TypeTree-F Bool Bool Bool Bool → Bool
unit_tree (TypeTree-F.Simple simple) = simple
unit_tree (TypeTree-F.Arrow domain arrow result) = false

abbrev pub unit_next : NextType-F Bool Bool Bool Bool → Bool
unit_next next = next.ty

-- whether there is no further type
abbrev pub is_empty : {A : Type 0} → List A → Bool
is_empty [] = true
is_empty (x ∷ xs) = false

abbrev pub unit_list : TypeList-F Bool Bool Bool Bool → Bool
unit_list list = is_empty list.others && list.first

-- whether a type is `()`, at every depth
unfoldable pub is_unit : TypeTree → Bool
is_unit = fold-TypeTree Bool Bool Bool Bool unit_simple unit_tree unit_next unit_list

-- the same of a simple type
unfoldable pub is_unit_simple : SimpleType → Bool
is_unit_simple = fold-SimpleType Bool Bool Bool Bool unit_simple unit_tree unit_next unit_list

-- the same of a further type of a list
unfoldable pub is_unit_next : NextType → Bool
is_unit_next = fold-NextType Bool Bool Bool Bool unit_simple unit_tree unit_next unit_list

-- the same of a list of types in parentheses
unfoldable pub is_unit_list : TypeList → Bool
is_unit_list = fold-TypeList Bool Bool Bool Bool unit_simple unit_tree unit_next unit_list

-- ---- the functions `run` without parameters

-- whether a function's name is `run`
abbrev pub is_named_run : Spellings → FunctionName → Bool
is_named_run names (function_name.Name name) = is_spelled "run" names name
is_named_run names _ = false

-- whether there are no parameters
abbrev pub has_none : Option Parameters → Bool
has_none None = true
has_none (Some parameters) = false

-- whether a function is a `run` without parameters
abbrev pub is_run : Spellings → Function → Bool
is_run names f = has_none f.parameters && is_named_run names f.name

-- whether a declaration is such a `run`, with the result `()`
abbrev pub starts_by : Spellings → Declaration → Bool
starts_by names (declaration.Function f) = is_run names f && is_unit f.result
starts_by names _ = false

abbrev pub is_start : Spellings → Declared → Bool
is_start names d = starts_by names d.declaration

-- Whether a component starts: one of its functions `run` without parameters has the result `()`.
abbrev pub starts : Component → Bool
starts c = list_any (is_start c.names) c.declarations
