-- The chapter "Grammar": a fact of each form of a type is a fact of every type.
use Rattle.std.specs.Prelude.{List, Option}
use Rattle.std.proofs.Common.{subst, sym}
use Rattle.fort_tree.specs.declared.spot.Spot.{Spot}
use Rattle.fort_tree.specs.declared.spot.Name.{Name}
use Rattle.fort_tree.specs.declared.types.SimpleType.{SimpleType}
use Rattle.fort_tree.specs.declared.types.SimpleType.TheVariants as a_simple_type
use Rattle.fort_tree.specs.declared.types.TypeTree.{TypeTree}
use Rattle.fort_tree.specs.declared.types.TypeTree.TheVariants as a_type_tree
use Rattle.fort_tree.specs.declared.types.NextType.{NextType}
use Rattle.fort_tree.specs.declared.types.TypeList.{TypeList}
use Rattle.fort_tree.specs.declared.types.SimpleType.TheOpen.{SimpleType-F, TypeTree-F}
use Rattle.fort_tree.specs.declared.types.SimpleType.TheViews as views

module _ (P : TypeTree → Type 0) (of_simple : (simple : SimpleType) → P (a_type_tree.Simple simple))
    (of_arrow : (domain : SimpleType) (arrow : Spot) (result : SimpleType)
    → P (a_type_tree.Arrow domain arrow result)) where
  type_at : (l : TypeTree-F SimpleType TypeTree NextType TypeList) → P (views.roll-TypeTree l)
  type_at (TypeTree-F.Simple simple) = subst P (sym (views.rolls-Simple simple)) (of_simple simple)
  type_at (TypeTree-F.Arrow domain arrow result) =
      subst P (sym (views.rolls-Arrow domain arrow result)) (of_arrow domain arrow result)

  pub cases_type : (x : TypeTree) → P x
  cases_type x = subst P (views.roll-out-TypeTree x) (type_at (views.out-TypeTree x))

module _ (P : SimpleType → Type 0) (of_named : (name : Name) → P (a_simple_type.Named name))
    (of_array : (array : Name) (left : Spot) (element : TypeTree) (comma : Spot) (index : Name)
    (right : Spot) → P (a_simple_type.Array array left element comma index right))
    (of_parts : (left : Spot) (parts : Option TypeList) (right : Spot)
    → P (a_simple_type.Parts left parts right)) where
  simple_type_at : (l : SimpleType-F SimpleType TypeTree NextType TypeList)
      → P (views.roll-SimpleType l)
  simple_type_at (SimpleType-F.Named name) = subst P (sym (views.rolls-Named name)) (of_named name)
  simple_type_at (SimpleType-F.Array array left element comma index right) =
      subst P (sym (views.rolls-Array array left element comma index right))
      (of_array array left element comma index right)
  simple_type_at (SimpleType-F.Parts left parts right) =
      subst P (sym (views.rolls-Parts left parts right)) (of_parts left parts right)

  pub cases_simple_type : (x : SimpleType) → P x
  cases_simple_type x =
      subst P (views.roll-out-SimpleType x) (simple_type_at (views.out-SimpleType x))

pub cases_type_list : (P : TypeList → Type 0)
    → ((first : TypeTree) (others : List NextType)
    → P (views.roll-TypeList (record { first = first; others = others }))) → (x : TypeList)
    → P x
cases_type_list P a x =
    subst P (views.roll-out-TypeList x)
    (a (views.out-TypeList x).first (views.out-TypeList x).others)

pub cases_next_type : (P : NextType → Type 0)
    → ((comma : Spot) (ty : TypeTree) → P (views.roll-NextType (record { comma = comma; ty = ty })))
    → (x : NextType) → P x
cases_next_type P a x =
    subst P (views.roll-out-NextType x) (a (views.out-NextType x).comma (views.out-NextType x).ty)
