-- The chapter "Types": the names that stand as types in each type, as one level of it.
use Rattle.std.proofs.Common.{◌≡◌, Option, rules}
use Rattle.std.specs.Prelude.{map, option_map}
use Rattle.fort_tree.specs.declared.spot.Spot.{Spot}
use Rattle.fort_tree.specs.declared.spot.Name.{Name}
use Rattle.fort_tree.specs.declared.types.SimpleType.{SimpleType, the_lemmas}
use Rattle.fort_tree.specs.declared.types.SimpleType.TheVariants as a_simple_type
use Rattle.fort_tree.specs.declared.types.TypeTree.{TypeTree}
use Rattle.fort_tree.specs.declared.types.TypeTree.TheVariants as a_type_tree
use Rattle.fort_tree.specs.declared.types.NextType.{NextType, out-NextType}
use Rattle.fort_tree.specs.declared.types.TypeList.{TypeList, out-TypeList}
use Rattle.fort_tree.specs.declared.types.SimpleType.TheOpen.{SimpleType-F, TypeTree-F}
use Rattle.fort_tree_type_names.specs.Mentions.{mentioned_simple_type, mentioned_type, mentioned_next_type, mentioned_type_list, mention_type_tree, mention_simple_type, mention_type_list, mention_next_type}

-- ---- TypeTree

pub mentions-Simple : (simple : SimpleType)
    → mentioned_type (a_type_tree.Simple simple)
    ≡ mention_type_tree (TypeTree-F.Simple (mentioned_simple_type simple))
unfolding mentioned_type mentioned_simple_type
mentions-Simple simple = search (rules, the_lemmas)

pub mentions-Arrow : (domain : SimpleType) (arrow : Spot) (result : SimpleType)
    → mentioned_type (a_type_tree.Arrow domain arrow result)
    ≡ mention_type_tree
    (TypeTree-F.Arrow (mentioned_simple_type domain) arrow (mentioned_simple_type result))
unfolding mentioned_type mentioned_simple_type
mentions-Arrow domain arrow result = search (rules, the_lemmas)

-- ---- SimpleType

pub mentions-Named : (name : Name)
    → mentioned_simple_type (a_simple_type.Named name)
    ≡ mention_simple_type (SimpleType-F.Named name)
unfolding mentioned_simple_type
mentions-Named name = search (rules, the_lemmas)

pub mentions-Array : (array : Name) (left : Spot) (element : TypeTree) (comma : Spot) (index : Name)
    (right : Spot)
    → mentioned_simple_type (a_simple_type.Array array left element comma index right)
    ≡ mention_simple_type (SimpleType-F.Array array left (mentioned_type element) comma index right)
unfolding mentioned_simple_type mentioned_type
mentions-Array array left element comma index right = search (rules, the_lemmas)

pub mentions-Parts : (left : Spot) (parts : Option TypeList) (right : Spot)
    → mentioned_simple_type (a_simple_type.Parts left parts right)
    ≡ mention_simple_type (SimpleType-F.Parts left (option_map mentioned_type_list parts) right)
unfolding mentioned_simple_type mentioned_type_list
mentions-Parts left parts right = search (rules, the_lemmas)

-- ---- TypeList

pub type_list_mentions : (x : TypeList)
    → mentioned_type_list x
    ≡ mention_type_list
    (record {
      first = mentioned_type (out-TypeList x).first;
      others = map mentioned_next_type (out-TypeList x).others;
    })
unfolding mentioned_type_list mentioned_type mentioned_next_type
type_list_mentions x = search (rules, the_lemmas)

-- ---- NextType

pub next_type_mentions : (x : NextType)
    → mentioned_next_type x
    ≡ mention_next_type
    (record { comma = (out-NextType x).comma; ty = mentioned_type (out-NextType x).ty })
unfolding mentioned_next_type mentioned_type
next_type_mentions x = search (rules, the_lemmas)
