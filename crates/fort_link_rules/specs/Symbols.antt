-- The chapter "Components and APIs", 704: how types are written, apart from where they stand and
-- from parentheses round one type. A type is read in prefix form: before the parts of an arrow, an
-- array or a tuple stands what they make. The code puts the symbols at the end of a list.
use Rattle.std.specs.Prelude.{ℕ, ◌+◌, ◌==◌, if◌then◌else◌, List, [], ◌∷◌, ◌++◌, Option, Some, None, length}
use Rattle.std.specs.List.{flat_map}
use Rattle.fort_tree.specs.declared.types.NextType.{NextType}
use Rattle.fort_tree.specs.declared.types.SimpleType.{SimpleType}
use Rattle.fort_tree.specs.declared.types.TypeList.{TypeList}
use Rattle.fort_tree.specs.declared.types.TypeTree.{TypeTree}
use Rattle.fort_tree.specs.declared.types.SimpleType.TheOpen.{SimpleType-F, TypeTree-F, NextType-F, TypeList-F}
use Rattle.fort_tree.specs.declared.types.SimpleType.TheFolds.{fold-SimpleType, fold-TypeTree, fold-NextType, fold-TypeList}
use Rattle.fort_tree.specs.declared.declarations.Parameters.{Parameters}
use Rattle.fort_link_rules.specs.declared.symbols.Symbol.{Symbol}
use Rattle.fort_link_rules.specs.declared.symbols.Symbol.TheVariants as symbol

-- a type in prefix form
abbrev pub Symbols : Type 0
Symbols = List Symbol

-- several types, one after the other
abbrev pub all_symbols : List Symbols → Symbols
all_symbols parts = flat_map (λ part. part) parts

-- what stands before the parts of a tuple; nothing before one type in parentheses
abbrev pub tuple_symbols : ℕ → Symbols
tuple_symbols others = if others == 0 then [] else symbol.Tuple (1 + others) ∷ []

-- what stands in parentheses; without parts it is the empty tuple
abbrev pub parts_symbols : Option Symbols → Symbols
parts_symbols None = symbol.Tuple 0 ∷ []
parts_symbols (Some parts) = parts

-- a simple type
abbrev pub write_simple_type : SimpleType-F Symbols Symbols Symbols Symbols → Symbols
write_simple_type (SimpleType-F.Named n) = symbol.Named n.id ∷ []
write_simple_type (SimpleType-F.Array array left element comma index right) =
    symbol.Array ∷ element
write_simple_type (SimpleType-F.Parts left parts right) = parts_symbols parts

-- a type
abbrev pub write_type : TypeTree-F Symbols Symbols Symbols Symbols → Symbols
write_type (TypeTree-F.Simple simple) = simple
write_type (TypeTree-F.Arrow domain arrow result) = symbol.Arrow ∷ (domain ++ result)

-- a further type of a list
abbrev pub write_next_type : NextType-F Symbols Symbols Symbols Symbols → Symbols
write_next_type next = next.ty

-- a list of types in parentheses
abbrev pub write_type_list : TypeList-F Symbols Symbols Symbols Symbols → Symbols
write_type_list list =
    tuple_symbols (length list.others) ++ (list.first ++ all_symbols list.others)

-- a type, at every depth
unfoldable pub type_symbols : TypeTree → Symbols
type_symbols =
    fold-TypeTree Symbols Symbols Symbols Symbols write_simple_type write_type write_next_type
    write_type_list

-- a simple type, at every depth
unfoldable pub simple_type_symbols : SimpleType → Symbols
simple_type_symbols =
    fold-SimpleType Symbols Symbols Symbols Symbols write_simple_type write_type write_next_type
    write_type_list

-- a further type of a list, at every depth
unfoldable pub next_type_symbols : NextType → Symbols
next_type_symbols =
    fold-NextType Symbols Symbols Symbols Symbols write_simple_type write_type write_next_type
    write_type_list

-- a list of types in parentheses, at every depth
unfoldable pub type_list_symbols : TypeList → Symbols
type_list_symbols =
    fold-TypeList Symbols Symbols Symbols Symbols write_simple_type write_type write_next_type
    write_type_list

-- the types of parameters, as a tuple of them
abbrev pub parameters_symbols : Option Parameters → Symbols
parameters_symbols None = symbol.Tuple 0 ∷ []
parameters_symbols (Some list) =
    symbol.Tuple (1 + length list.others)
    ∷ (type_symbols list.first.ty
    ++ flat_map (λ next. type_symbols next.parameter.ty) list.others)
