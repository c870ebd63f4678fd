-- The chapter "Members", written types: which type is written. The code goes down the tree and
-- looks names up in a map.
use Rattle.std.specs.Prelude.{List, [], ◌∷◌, Option, Some, None, cond}
use Rattle.std.specs.Str.{bytes_eq}
use Rattle.fort_base.specs.declared.ty.Ty.{Ty}
use Rattle.fort_base.specs.declared.ty.Ty.TheVariants as a_type
use Rattle.fort_tree.specs.declared.types.SimpleType.{SimpleType}
use Rattle.fort_tree.specs.declared.types.TypeTree.{TypeTree}
use Rattle.fort_tree.specs.declared.types.NextType.{NextType}
use Rattle.fort_tree.specs.declared.types.TypeList.{TypeList}
use Rattle.fort_tree.specs.declared.types.SimpleType.TheOpen.{SimpleType-F, TypeTree-F, NextType-F, TypeList-F}
use Rattle.fort_tree.specs.declared.types.SimpleType.TheFolds.{fold-SimpleType, fold-TypeTree, fold-NextType, fold-TypeList}
use Rattle.fort_types_builtin.specs.Types.{any_spelling}
use Rattle.fort_hier.specs.Names.{Spelling, spelling}
use Rattle.fort_hier.specs.Numbers.{number_of}

-- The type that a spelling names: `Any`, or the declared type with its number.
abbrev pub named : List Spelling → Spelling → Ty
named list s =
    cond (bytes_eq s any_spelling) a_type.Any (a_type.Named (record { 0 = number_of list s }))

-- The types between parentheses: one alone is itself, and any other number of them is a tuple.
abbrev pub parts : Option (List Ty) → Ty
parts None = a_type.Tuple []
parts (Some (t ∷ [])) = t
parts (Some ts) = a_type.Tuple ts

-- ---- one level of a type, with the types of its parts in their places

abbrev pub simple_type : List Spelling → List Spelling → SimpleType-F Ty Ty Ty (List Ty) → Ty
simple_type list names (SimpleType-F.Named name) = named list (spelling names name)
simple_type list names (SimpleType-F.Array array left element comma index right) =
    a_type.Array element
simple_type list names (SimpleType-F.Parts left types right) = parts types

abbrev pub type_tree : TypeTree-F Ty Ty Ty (List Ty) → Ty
type_tree (TypeTree-F.Simple simple) = simple
type_tree (TypeTree-F.Arrow domain arrow result) = a_type.Arrow domain result

abbrev pub next_type : NextType-F Ty Ty Ty (List Ty) → Ty
next_type next = next.ty

abbrev pub type_list : TypeList-F Ty Ty Ty (List Ty) → List Ty
type_list list = list.first ∷ list.others

-- ---- at every depth

-- The type that is written, where the types have these names and the component those.
unfoldable pub written : List Spelling → List Spelling → TypeTree → Ty
written list names =
    fold-TypeTree Ty Ty Ty (List Ty) (simple_type list names) type_tree next_type type_list

unfoldable pub written_simple : List Spelling → List Spelling → SimpleType → Ty
written_simple list names =
    fold-SimpleType Ty Ty Ty (List Ty) (simple_type list names) type_tree next_type type_list

unfoldable pub written_next : List Spelling → List Spelling → NextType → Ty
written_next list names =
    fold-NextType Ty Ty Ty (List Ty) (simple_type list names) type_tree next_type type_list

unfoldable pub written_list : List Spelling → List Spelling → TypeList → List Ty
written_list list names =
    fold-TypeList Ty Ty Ty (List Ty) (simple_type list names) type_tree next_type type_list
