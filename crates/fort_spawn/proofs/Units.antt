-- Which types are `()`, as one level of each.
use Rattle.std.proofs.Common.{◌≡◌, Bool, true, false, ◌&&◌, List, [], ◌∷◌, Option, refl, ap, ◌∙◌, rules}
use Rattle.std.specs.Prelude.{map, option_map}
use Rattle.fort_tree.specs.declared.spot.Spot.{Spot}
use Rattle.fort_tree.specs.declared.spot.Name.{Name}
use Rattle.fort_tree.specs.declared.types.SimpleType.{SimpleType, the_lemmas}
use Rattle.fort_tree.specs.declared.types.SimpleType.TheVariants as a_simple_type
use Rattle.fort_tree.specs.declared.types.TypeTree.{TypeTree}
use Rattle.fort_tree.specs.declared.types.TypeTree.TheVariants as a_type_tree
use Rattle.fort_tree.specs.declared.types.NextType.{NextType}
use Rattle.fort_tree.specs.declared.types.TypeList.{TypeList, out-TypeList}
use Rattle.fort_spawn.specs.Starts.{is_unit, is_unit_simple, is_unit_next, is_unit_list, parts_are_unit, unit_list, is_empty}

pub units-Simple : (simple : SimpleType)
    → is_unit (a_type_tree.Simple simple) ≡ is_unit_simple simple
unfolding is_unit is_unit_simple
units-Simple simple = search (rules, the_lemmas)

pub units-Arrow : (domain : SimpleType) (arrow : Spot) (result : SimpleType)
    → is_unit (a_type_tree.Arrow domain arrow result) ≡ false
unfolding is_unit
units-Arrow domain arrow result = search (rules, the_lemmas)

pub units-Named : (name : Name) → is_unit_simple (a_simple_type.Named name) ≡ false
unfolding is_unit_simple
units-Named name = search (rules, the_lemmas)

pub units-Array : (array : Name) (left : Spot) (element : TypeTree) (comma : Spot) (index : Name)
    (right : Spot)
    → is_unit_simple (a_simple_type.Array array left element comma index right) ≡ false
unfolding is_unit_simple
units-Array array left element comma index right = search (rules, the_lemmas)

pub units-Parts : (left : Spot) (parts : Option TypeList) (right : Spot)
    → is_unit_simple (a_simple_type.Parts left parts right)
    ≡ parts_are_unit (option_map is_unit_list parts)
unfolding is_unit_simple is_unit_list
units-Parts left parts right = search (rules, the_lemmas)

list_units : (x : TypeList)
    → is_unit_list x
    ≡ unit_list
    (record {
      first = is_unit (out-TypeList x).first;
      others = map is_unit_next (out-TypeList x).others;
    })
unfolding is_unit_list is_unit is_unit_next
list_units x = search (rules, the_lemmas)

none_or_some : (xs : List NextType) → is_empty (map is_unit_next xs) ≡ is_empty xs
none_or_some [] = refl
none_or_some (x ∷ xs) = refl

pub list_is : (x : TypeList)
    → is_unit_list x ≡ (is_empty (out-TypeList x).others && is_unit (out-TypeList x).first)
list_is x =
    list_units x
    ∙ ap (λ b. b && is_unit (out-TypeList x).first) (none_or_some (out-TypeList x).others)

-- a list of one type
pub of_one : (x : TypeList) → (out-TypeList x).others ≡ []
    → is_unit_list x ≡ is_unit (out-TypeList x).first
of_one x e = list_is x ∙ ap (λ xs. is_empty xs && is_unit (out-TypeList x).first) e

not_empty : (xs : List NextType) → (xs ≡ [] → ⊥) → is_empty xs ≡ false
not_empty [] n = absurd (n refl)
not_empty (x ∷ xs) n = refl

-- a list of more
pub of_more : (x : TypeList) → ((out-TypeList x).others ≡ [] → ⊥) → is_unit_list x ≡ false
of_more x n =
    list_is x
    ∙ ap (λ b. b && is_unit (out-TypeList x).first) (not_empty (out-TypeList x).others n)
