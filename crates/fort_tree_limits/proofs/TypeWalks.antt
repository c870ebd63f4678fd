-- The chapter "Grammar", limits: what a walk over each form of a type finds.
use Rattle.std.proofs.Common.{◌≡◌, ◌+◌, ◌++◌, Option, ap, length}
use Rattle.std.specs.Prelude.{map, option_map}
use Rattle.std.proofs.lemmas.List.{length-map}
use Rattle.fort_base.specs.declared.refusal.Place.{Place}
use Rattle.fort_tree.specs.declared.spot.Spot.{Spot}
use Rattle.fort_tree.specs.declared.spot.Name.{Name}
use Rattle.fort_tree.specs.declared.types.SimpleType.{SimpleType}
use Rattle.fort_tree.specs.declared.types.SimpleType.TheVariants as a_simple_type
use Rattle.fort_tree.specs.declared.types.TypeTree.{TypeTree}
use Rattle.fort_tree.specs.declared.types.TypeTree.TheVariants as a_type_tree
use Rattle.fort_tree.specs.declared.types.TypeList.{TypeList, out-TypeList}
use Rattle.fort_tree.specs.Measured.{all_crowded, listed_parts, most_tuple_parts, over}
use Rattle.fort_tree.specs.Measures.{measured_type, measured_simple_type, measured_next_type, measured_type_list}
use Rattle.fort_tree.proofs.MeasuresTypes.{measures-Simple, measures-Arrow, measures-Named, measures-Array, measures-Parts, type_list_measures}
use Rattle.fort_tree_limits.specs.Earliest.{earliest}
use Rattle.fort_tree_limits.proofs.EarliestLaws.{earliest_none, earliest_append, one_and}

pub walks-Simple : (found : Option Place) (simple : SimpleType)
    → earliest found (measured_type (a_type_tree.Simple simple)).crowded
    ≡ earliest found (measured_simple_type simple).crowded
walks-Simple found simple = simp measures-Simple

pub walks-Arrow : (found : Option Place) (domain : SimpleType) (arrow : Spot) (result : SimpleType)
    → earliest found (measured_type (a_type_tree.Arrow domain arrow result)).crowded
    ≡ earliest (earliest found (measured_simple_type domain).crowded)
    (measured_simple_type result).crowded
walks-Arrow found domain arrow result = simp (measures-Arrow, earliest_append, earliest_none)

pub walks-Named : (found : Option Place) (name : Name)
    → earliest found (measured_simple_type (a_simple_type.Named name)).crowded ≡ found
walks-Named found name = simp (measures-Named, earliest_none)

pub walks-Array : (found : Option Place) (array : Name) (left : Spot) (element : TypeTree)
    (comma : Spot) (index : Name) (right : Spot)
    → earliest found
    (measured_simple_type (a_simple_type.Array array left element comma index right)).crowded
    ≡ earliest found (measured_type element).crowded
walks-Array found array left element comma index right =
    simp (measures-Array, earliest_append, earliest_none)

pub walks-Parts : (found : Option Place) (left : Spot) (parts : Option TypeList) (right : Spot)
    → earliest found (measured_simple_type (a_simple_type.Parts left parts right)).crowded
    ≡ earliest found
    (over most_tuple_parts (length (listed_parts (option_map measured_type_list parts))) left.place
    ++ all_crowded (listed_parts (option_map measured_type_list parts)))
walks-Parts found left parts right = simp measures-Parts

pub type_list_walks : (found : Option Place) (left : Place) (x : TypeList)
    → earliest found
    (over most_tuple_parts (length (measured_type_list x).parts) left
    ++ all_crowded (measured_type_list x).parts)
    ≡ earliest
    (earliest (earliest found (over most_tuple_parts (1 + length (out-TypeList x).others) left))
    (measured_type (out-TypeList x).first).crowded)
    (all_crowded (map measured_next_type (out-TypeList x).others))
type_list_walks found left x =
    simp (type_list_measures, length-map, earliest_append)
    (ap (λ n. earliest
    (earliest (earliest found (over most_tuple_parts n left))
    (measured_type (out-TypeList x).first).crowded)
    (all_crowded (map measured_next_type (out-TypeList x).others)))
    (one_and (length (out-TypeList x).others)))
