-- How each type is written, as one level of it.
use Rattle.std.proofs.Common.{◌≡◌, ◌++◌, Option, length, ap, ◌∙◌, rules}
use Rattle.std.specs.Prelude.{map, option_map}
use Rattle.std.proofs.lemmas.List.{length-map}
use Rattle.fort_tree.specs.declared.spot.Spot.{Spot}
use Rattle.fort_tree.specs.declared.spot.Name.{Name}
use Rattle.fort_tree.specs.declared.types.SimpleType.{SimpleType, the_lemmas}
use Rattle.fort_tree.specs.declared.types.SimpleType.TheVariants as a_simple_type
use Rattle.fort_tree.specs.declared.types.TypeTree.{TypeTree}
use Rattle.fort_tree.specs.declared.types.TypeTree.TheVariants as a_type_tree
use Rattle.fort_tree.specs.declared.types.NextType.{NextType, out-NextType}
use Rattle.fort_tree.specs.declared.types.TypeList.{TypeList, out-TypeList}
use Rattle.fort_tree.specs.declared.types.SimpleType.TheOpen.{SimpleType-F, TypeTree-F}
use Rattle.fort_link_rules.specs.Symbols.{all_symbols, tuple_symbols, simple_type_symbols, type_symbols, next_type_symbols, type_list_symbols, write_type, write_simple_type, write_type_list, write_next_type}

-- ---- TypeTree

pub writes-Simple : (simple : SimpleType)
    → type_symbols (a_type_tree.Simple simple)
    ≡ write_type (TypeTree-F.Simple (simple_type_symbols simple))
unfolding type_symbols simple_type_symbols
writes-Simple simple = search (rules, the_lemmas)

pub writes-Arrow : (domain : SimpleType) (arrow : Spot) (result : SimpleType)
    → type_symbols (a_type_tree.Arrow domain arrow result)
    ≡ write_type
    (TypeTree-F.Arrow (simple_type_symbols domain) arrow (simple_type_symbols result))
unfolding type_symbols simple_type_symbols
writes-Arrow domain arrow result = search (rules, the_lemmas)

-- ---- SimpleType

pub writes-Named : (name : Name)
    → simple_type_symbols (a_simple_type.Named name)
    ≡ write_simple_type (SimpleType-F.Named name)
unfolding simple_type_symbols
writes-Named name = search (rules, the_lemmas)

pub writes-Array : (array : Name) (left : Spot) (element : TypeTree) (comma : Spot) (index : Name)
    (right : Spot)
    → simple_type_symbols (a_simple_type.Array array left element comma index right)
    ≡ write_simple_type (SimpleType-F.Array array left (type_symbols element) comma index right)
unfolding simple_type_symbols type_symbols
writes-Array array left element comma index right = search (rules, the_lemmas)

pub writes-Parts : (left : Spot) (parts : Option TypeList) (right : Spot)
    → simple_type_symbols (a_simple_type.Parts left parts right)
    ≡ write_simple_type (SimpleType-F.Parts left (option_map type_list_symbols parts) right)
unfolding simple_type_symbols type_list_symbols
writes-Parts left parts right = search (rules, the_lemmas)

-- ---- TypeList

pub type_list_writes : (x : TypeList)
    → type_list_symbols x
    ≡ write_type_list
    (record {
      first = type_symbols (out-TypeList x).first;
      others = map next_type_symbols (out-TypeList x).others;
    })
unfolding type_list_symbols type_symbols next_type_symbols
type_list_writes x = search (rules, the_lemmas)

-- ---- NextType

pub next_type_writes : (x : NextType)
    → next_type_symbols x
    ≡ write_next_type
    (record { comma = (out-NextType x).comma; ty = type_symbols (out-NextType x).ty })
unfolding next_type_symbols type_symbols
next_type_writes x = search (rules, the_lemmas)

-- what stands in parentheses, at every depth
pub parts_written : (x : TypeList)
    → type_list_symbols x
    ≡ tuple_symbols (length (out-TypeList x).others)
    ++ (type_symbols (out-TypeList x).first
    ++ all_symbols (map next_type_symbols (out-TypeList x).others))
parts_written x =
    type_list_writes x
    ∙ ap (λ n. tuple_symbols n
    ++ (type_symbols (out-TypeList x).first
    ++ all_symbols (map next_type_symbols (out-TypeList x).others)))
    (length-map (out-TypeList x).others next_type_symbols)
