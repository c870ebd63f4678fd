-- The chapter "Grammar": what each type says, as one level of it.
use Rattle.std.proofs.Common.{◌≡◌, List, Option, rules}
use Rattle.std.specs.Prelude.{map, option_map}
use Rattle.fort_tree.specs.declared.spot.Spot.{Spot}
use Rattle.fort_tree.specs.declared.spot.Name.{Name}
use Rattle.fort_tree.specs.declared.types.SimpleType.{SimpleType, the_lemmas}
use Rattle.fort_tree.specs.declared.types.SimpleType.TheVariants as a_simple_type
use Rattle.fort_tree.specs.declared.types.TypeTree.{TypeTree}
use Rattle.fort_tree.specs.declared.types.TypeTree.TheVariants as a_type_tree
use Rattle.fort_tree.specs.declared.types.NextType.{NextType, out-NextType, roll-NextType}
use Rattle.fort_tree.specs.declared.types.TypeList.{TypeList, out-TypeList, roll-TypeList}
use Rattle.fort_tree.specs.declared.types.SimpleType.TheOpen.{SimpleType-F, TypeTree-F}
use Rattle.fort_tree.specs.Types.{said_simple_type, said_type, said_next_type, said_type_list, type_tree_step, simple_type_step, type_list_step, next_type_step}

-- ---- TypeTree

pub says-Simple : (simple : SimpleType)
    → said_type (a_type_tree.Simple simple)
    ≡ type_tree_step (TypeTree-F.Simple (said_simple_type simple))
unfolding said_type said_simple_type
says-Simple simple = search (rules, the_lemmas)

pub says-Arrow : (domain : SimpleType) (arrow : Spot) (result : SimpleType)
    → said_type (a_type_tree.Arrow domain arrow result)
    ≡ type_tree_step (TypeTree-F.Arrow (said_simple_type domain) arrow (said_simple_type result))
unfolding said_type said_simple_type
says-Arrow domain arrow result = search (rules, the_lemmas)

-- ---- SimpleType

pub says-Named : (name : Name)
    → said_simple_type (a_simple_type.Named name) ≡ simple_type_step (SimpleType-F.Named name)
unfolding said_simple_type
says-Named name = search (rules, the_lemmas)

pub says-Array : (array : Name) (left : Spot) (element : TypeTree) (comma : Spot) (index : Name)
    (right : Spot)
    → said_simple_type (a_simple_type.Array array left element comma index right)
    ≡ simple_type_step (SimpleType-F.Array array left (said_type element) comma index right)
unfolding said_simple_type said_type
says-Array array left element comma index right = search (rules, the_lemmas)

pub says-Parts : (left : Spot) (parts : Option TypeList) (right : Spot)
    → said_simple_type (a_simple_type.Parts left parts right)
    ≡ simple_type_step (SimpleType-F.Parts left (option_map said_type_list parts) right)
unfolding said_simple_type said_type_list
says-Parts left parts right = search (rules, the_lemmas)

-- ---- TypeList

pub says_type_list : (first : TypeTree) (others : List NextType)
    → said_type_list (roll-TypeList (record { first = first; others = others }))
    ≡ type_list_step (record { first = said_type first; others = map said_next_type others })
unfolding said_type_list said_type said_next_type
says_type_list first others = search (rules, the_lemmas)

pub type_list_says : (x : TypeList)
    → said_type_list x
    ≡ type_list_step
    (record {
      first = said_type (out-TypeList x).first;
      others = map said_next_type (out-TypeList x).others;
    })
unfolding said_type_list said_type said_next_type
type_list_says x = search (rules, the_lemmas)

-- ---- NextType

pub says_next_type : (comma : Spot) (ty : TypeTree)
    → said_next_type (roll-NextType (record { comma = comma; ty = ty }))
    ≡ next_type_step (record { comma = comma; ty = said_type ty })
unfolding said_next_type said_type
says_next_type comma ty = search (rules, the_lemmas)

pub next_type_says : (x : NextType)
    → said_next_type x
    ≡ next_type_step (record { comma = (out-NextType x).comma; ty = said_type (out-NextType x).ty })
unfolding said_next_type said_type
next_type_says x = search (rules, the_lemmas)
