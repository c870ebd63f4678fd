-- The chapter "Grammar", limits: what each type measures, as one level of it.
use Rattle.std.proofs.Common.{◌≡◌, List, Option, rules}
use Rattle.std.specs.Prelude.{map, option_map}
use Rattle.fort_tree.specs.declared.spot.Spot.{Spot}
use Rattle.fort_tree.specs.declared.spot.Name.{Name}
use Rattle.fort_tree.specs.declared.types.SimpleType.{SimpleType, the_lemmas}
use Rattle.fort_tree.specs.declared.types.SimpleType.TheVariants as a_simple_type
use Rattle.fort_tree.specs.declared.types.TypeTree.{TypeTree}
use Rattle.fort_tree.specs.declared.types.TypeTree.TheVariants as a_type_tree
use Rattle.fort_tree.specs.declared.types.NextType.{NextType, out-NextType, roll-NextType}
use Rattle.fort_tree.specs.declared.types.TypeList.{TypeList, out-TypeList, roll-TypeList}
use Rattle.fort_tree.specs.declared.types.SimpleType.TheOpen.{SimpleType-F, TypeTree-F}
use Rattle.fort_tree.specs.Measures.{measured_simple_type, measured_type, measured_next_type, measured_type_list, measure_type_tree, measure_simple_type, measure_type_list, measure_next_type}

-- ---- TypeTree

pub measures-Simple : (simple : SimpleType)
    → measured_type (a_type_tree.Simple simple)
    ≡ measure_type_tree (TypeTree-F.Simple (measured_simple_type simple))
unfolding measured_type measured_simple_type
measures-Simple simple = search (rules, the_lemmas)

pub measures-Arrow : (domain : SimpleType) (arrow : Spot) (result : SimpleType)
    → measured_type (a_type_tree.Arrow domain arrow result)
    ≡ measure_type_tree
    (TypeTree-F.Arrow (measured_simple_type domain) arrow (measured_simple_type result))
unfolding measured_type measured_simple_type
measures-Arrow domain arrow result = search (rules, the_lemmas)

-- ---- SimpleType

pub measures-Named : (name : Name)
    → measured_simple_type (a_simple_type.Named name)
    ≡ measure_simple_type (SimpleType-F.Named name)
unfolding measured_simple_type
measures-Named name = search (rules, the_lemmas)

pub measures-Array : (array : Name) (left : Spot) (element : TypeTree) (comma : Spot) (index : Name)
    (right : Spot)
    → measured_simple_type (a_simple_type.Array array left element comma index right)
    ≡ measure_simple_type (SimpleType-F.Array array left (measured_type element) comma index right)
unfolding measured_simple_type measured_type
measures-Array array left element comma index right = search (rules, the_lemmas)

pub measures-Parts : (left : Spot) (parts : Option TypeList) (right : Spot)
    → measured_simple_type (a_simple_type.Parts left parts right)
    ≡ measure_simple_type (SimpleType-F.Parts left (option_map measured_type_list parts) right)
unfolding measured_simple_type measured_type_list
measures-Parts left parts right = search (rules, the_lemmas)

-- ---- TypeList

pub measures_type_list : (first : TypeTree) (others : List NextType)
    → measured_type_list (roll-TypeList (record { first = first; others = others }))
    ≡ measure_type_list
    (record { first = measured_type first; others = map measured_next_type others })
unfolding measured_type_list measured_type measured_next_type
measures_type_list first others = search (rules, the_lemmas)

pub type_list_measures : (x : TypeList)
    → measured_type_list x
    ≡ measure_type_list
    (record {
      first = measured_type (out-TypeList x).first;
      others = map measured_next_type (out-TypeList x).others;
    })
unfolding measured_type_list measured_type measured_next_type
type_list_measures x = search (rules, the_lemmas)

-- ---- NextType

pub measures_next_type : (comma : Spot) (ty : TypeTree)
    → measured_next_type (roll-NextType (record { comma = comma; ty = ty }))
    ≡ measure_next_type (record { comma = comma; ty = measured_type ty })
unfolding measured_next_type measured_type
measures_next_type comma ty = search (rules, the_lemmas)

pub next_type_measures : (x : NextType)
    → measured_next_type x
    ≡ measure_next_type
    (record { comma = (out-NextType x).comma; ty = measured_type (out-NextType x).ty })
unfolding measured_next_type measured_type
next_type_measures x = search (rules, the_lemmas)
