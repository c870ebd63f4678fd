-- The types of parameters are solid: `Nothing` can't be written.
use Rattle.std.proofs.Common.{◌≡◌, Bool, true, false, cond, List, [], ◌∷◌, map, Some, None, sym, ap, ◌∙◌, subst}
use Rattle.std.specs.List.{AllByRecursion}
use Rattle.std.specs.Str.{bytes_eq}
use Rattle.fort_base.specs.declared.ids.TypeId.{TypeId}
use Rattle.fort_base.specs.declared.ty.Ty.{Ty}
use Rattle.fort_base.specs.declared.ty.Ty.TheVariants as a_type
use Rattle.fort_base.specs.declared.ty.Ty.TheVariants.{outs-Any, outs-Named, outs-Tuple, outs-Arrow, outs-Array}
use Rattle.fort_types.specs.Types.{Solid, solid_one, solid_all, Shape, bottom, top, declared, function, elements, shape, shape_of}
use Rattle.fort_types.specs.Types.{parts as tuple_shape}
use Rattle.fort_tree.specs.declared.types.SimpleType.{SimpleType}
use Rattle.fort_tree.specs.declared.types.TypeTree.{TypeTree}
use Rattle.fort_tree.specs.declared.types.NextType.{NextType}
use Rattle.fort_tree.specs.declared.types.TypeList.{TypeList}
use Rattle.fort_tree.specs.declared.types.SimpleType.TheOpen.{SimpleType-F, TypeTree-F, NextType-F, TypeList-F}
use Rattle.fort_tree.specs.declared.types.SimpleType.TheFolds.{fold-roll-SimpleType, map-SimpleType, fold-roll-TypeTree, map-TypeTree, ind-TypeTree, fold-roll-NextType, map-NextType, fold-roll-TypeList, map-TypeList}
use Rattle.fort_tree.specs.declared.types.SimpleType.TheViews.{roll-SimpleType, roll-TypeTree, roll-NextType, roll-TypeList}
use Rattle.fort_types_builtin.specs.Types.{any_spelling}
use Rattle.fort_hier.specs.Names.{Spelling, spelling}
use Rattle.fort_hier.specs.Numbers.{number_of}
use Rattle.fort_member_fields.specs.Written.{parts, simple_type, type_tree, next_type, type_list, written, written_simple, written_next, written_list}
use Rattle.fort_member.proofs.Numbered.{all_item}

-- ---- types by their layers

-- neither `Nothing` nor a tuple
solid_at : (t : Ty) (s : Shape) → shape t ≡ s → (s ≡ bottom → ⊥) → (s ≡ tuple_shape → ⊥) → Solid t
solid_at t s e f g = solid_one (λ q. f (sym e ∙ q)) (λ q. g (sym e ∙ q))

pub solid_any : Solid a_type.Any
solid_any = solid_at a_type.Any top (ap shape_of outs-Any) (λ e. absurd cc) (λ e. absurd cc)

pub solid_named : (i : TypeId) → Solid (a_type.Named i)
solid_named i =
    solid_at (a_type.Named i) declared (ap shape_of (outs-Named i)) (λ e. absurd cc)
    (λ e. absurd cc)

solid_arrow : (a b : Ty) → Solid (a_type.Arrow a b)
solid_arrow a b =
    solid_at (a_type.Arrow a b) function (ap shape_of (outs-Arrow a b)) (λ e. absurd cc)
    (λ e. absurd cc)

solid_array : (a : Ty) → Solid (a_type.Array a)
solid_array a =
    solid_at (a_type.Array a) elements (ap shape_of (outs-Array a)) (λ e. absurd cc)
    (λ e. absurd cc)

pub solid_tuple : (ts : List Ty) → AllByRecursion Solid ts → Solid (a_type.Tuple ts)
solid_tuple ts all = solid_all (outs-Tuple ts) (λ k x e. all_item Solid ts k x all e)

solid_parts : (ts : List Ty) → AllByRecursion Solid ts → Solid (parts (Some ts))
solid_parts [] h = solid_tuple [] tt
solid_parts (t ∷ []) h = h.0
solid_parts (t ∷ u ∷ ts) h = solid_tuple (t ∷ u ∷ ts) h

solid_name : (list : List Spelling) (s : Spelling) (b : Bool)
    → Solid (cond b a_type.Any (a_type.Named (record { 0 = number_of list s })))
solid_name list s true = solid_any
solid_name list s false = solid_named (record { 0 = number_of list s })

-- ---- types that are written

module _ (list names : List Spelling) where
  abbrev Simple : SimpleType → Type 0
  Simple t = Solid (written_simple list names t)

  abbrev Tree : TypeTree → Type 0
  Tree t = Solid (written list names t)

  abbrev Next : NextType → Type 0
  Next t = Solid (written_next list names t)

  abbrev Types : TypeList → Type 0
  Types t = AllByRecursion Solid (written_list list names t)

  abbrev OneSimple : Type 0
  OneSimple = (t : SimpleType) × Simple t

  abbrev OneTree : Type 0
  OneTree = (t : TypeTree) × Tree t

  abbrev OneNext : Type 0
  OneNext = (t : NextType) × Next t

  abbrev OneTypes : Type 0
  OneTypes = (t : TypeList) × Types t

  abbrev simple_parts : SimpleType-F OneSimple OneTree OneNext OneTypes
      → SimpleType-F SimpleType TypeTree NextType TypeList
  simple_parts =
      map-SimpleType OneSimple OneTree OneNext OneTypes SimpleType TypeTree NextType TypeList
      (λ e. e.0) (λ e. e.0) (λ e. e.0) (λ e. e.0)

  abbrev simple_writes : SimpleType-F SimpleType TypeTree NextType TypeList
      → SimpleType-F Ty Ty Ty (List Ty)
  simple_writes =
      map-SimpleType SimpleType TypeTree NextType TypeList Ty Ty Ty (List Ty)
      (written_simple list names) (written list names) (written_next list names)
      (written_list list names)

  simple_written : (l : SimpleType-F SimpleType TypeTree NextType TypeList)
      → written_simple list names (roll-SimpleType l) ≡ simple_type list names (simple_writes l)
  unfolding written_simple written written_next written_list
  simple_written l =
      fold-roll-SimpleType Ty Ty Ty (List Ty) (simple_type list names) type_tree next_type type_list
      l

  simple_level : (y : SimpleType-F OneSimple OneTree OneNext OneTypes)
      → Solid (simple_type list names (simple_writes (simple_parts y)))
  simple_level (SimpleType-F.Named x) =
      solid_name list (spelling names x) (bytes_eq (spelling names x) any_spelling)
  simple_level (SimpleType-F.Array array left element comma index right) =
      solid_array (written list names element.0)
  simple_level (SimpleType-F.Parts left None right) = solid_tuple [] tt
  simple_level (SimpleType-F.Parts left (Some ts) right) =
      solid_parts (written_list list names ts.0) ts.1

  simple_step : (x : SimpleType-F SimpleType TypeTree NextType TypeList)
      (y : SimpleType-F OneSimple OneTree OneNext OneTypes) → simple_parts y ≡ x
      → Simple (roll-SimpleType x)
  simple_step x y is =
      subst (λ x. Simple (roll-SimpleType x)) is
      (subst Solid (sym (simple_written (simple_parts y))) (simple_level y))

  abbrev tree_parts : TypeTree-F OneSimple OneTree OneNext OneTypes
      → TypeTree-F SimpleType TypeTree NextType TypeList
  tree_parts =
      map-TypeTree OneSimple OneTree OneNext OneTypes SimpleType TypeTree NextType TypeList
      (λ e. e.0) (λ e. e.0) (λ e. e.0) (λ e. e.0)

  abbrev tree_writes : TypeTree-F SimpleType TypeTree NextType TypeList
      → TypeTree-F Ty Ty Ty (List Ty)
  tree_writes =
      map-TypeTree SimpleType TypeTree NextType TypeList Ty Ty Ty (List Ty)
      (written_simple list names) (written list names) (written_next list names)
      (written_list list names)

  tree_written : (l : TypeTree-F SimpleType TypeTree NextType TypeList)
      → written list names (roll-TypeTree l) ≡ type_tree (tree_writes l)
  unfolding written_simple written written_next written_list
  tree_written l =
      fold-roll-TypeTree Ty Ty Ty (List Ty) (simple_type list names) type_tree next_type type_list l

  tree_level : (y : TypeTree-F OneSimple OneTree OneNext OneTypes)
      → Solid (type_tree (tree_writes (tree_parts y)))
  tree_level (TypeTree-F.Simple s) = s.1
  tree_level (TypeTree-F.Arrow a arrow b) =
      solid_arrow (written_simple list names a.0) (written_simple list names b.0)

  tree_step : (x : TypeTree-F SimpleType TypeTree NextType TypeList)
      (y : TypeTree-F OneSimple OneTree OneNext OneTypes) → tree_parts y ≡ x
      → Tree (roll-TypeTree x)
  tree_step x y is =
      subst (λ x. Tree (roll-TypeTree x)) is
      (subst Solid (sym (tree_written (tree_parts y))) (tree_level y))

  abbrev next_parts : NextType-F OneSimple OneTree OneNext OneTypes
      → NextType-F SimpleType TypeTree NextType TypeList
  next_parts =
      map-NextType OneSimple OneTree OneNext OneTypes SimpleType TypeTree NextType TypeList
      (λ e. e.0) (λ e. e.0) (λ e. e.0) (λ e. e.0)

  abbrev next_writes : NextType-F SimpleType TypeTree NextType TypeList
      → NextType-F Ty Ty Ty (List Ty)
  next_writes =
      map-NextType SimpleType TypeTree NextType TypeList Ty Ty Ty (List Ty)
      (written_simple list names) (written list names) (written_next list names)
      (written_list list names)

  next_written : (l : NextType-F SimpleType TypeTree NextType TypeList)
      → written_next list names (roll-NextType l) ≡ next_type (next_writes l)
  unfolding written_simple written written_next written_list
  next_written l =
      fold-roll-NextType Ty Ty Ty (List Ty) (simple_type list names) type_tree next_type type_list l

  next_step : (x : NextType-F SimpleType TypeTree NextType TypeList)
      (y : NextType-F OneSimple OneTree OneNext OneTypes) → next_parts y ≡ x
      → Next (roll-NextType x)
  next_step x y is =
      subst (λ x. Next (roll-NextType x)) is
      (subst Solid (sym (next_written (next_parts y))) y.ty.1)

  abbrev list_parts : TypeList-F OneSimple OneTree OneNext OneTypes
      → TypeList-F SimpleType TypeTree NextType TypeList
  list_parts =
      map-TypeList OneSimple OneTree OneNext OneTypes SimpleType TypeTree NextType TypeList
      (λ e. e.0) (λ e. e.0) (λ e. e.0) (λ e. e.0)

  abbrev list_writes : TypeList-F SimpleType TypeTree NextType TypeList
      → TypeList-F Ty Ty Ty (List Ty)
  list_writes =
      map-TypeList SimpleType TypeTree NextType TypeList Ty Ty Ty (List Ty)
      (written_simple list names) (written list names) (written_next list names)
      (written_list list names)

  list_written : (l : TypeList-F SimpleType TypeTree NextType TypeList)
      → written_list list names (roll-TypeList l) ≡ type_list (list_writes l)
  unfolding written_simple written written_next written_list
  list_written l =
      fold-roll-TypeList Ty Ty Ty (List Ty) (simple_type list names) type_tree next_type type_list l

  others : (es : List OneNext)
      → AllByRecursion Solid (map (written_next list names) (map (λ (e : OneNext). e.0) es))
  others [] = tt
  others (e ∷ es) = (e.1, others es)

  list_step : (x : TypeList-F SimpleType TypeTree NextType TypeList)
      (y : TypeList-F OneSimple OneTree OneNext OneTypes) → list_parts y ≡ x
      → Types (roll-TypeList x)
  list_step x y is =
      subst (λ x. Types (roll-TypeList x)) is
      (subst (AllByRecursion Solid) (sym (list_written (list_parts y))) (
        y.first.1,
        others y.others,
      ))

  pub written_solid : (t : TypeTree) → Solid (written list names t)
  written_solid = ind-TypeTree Simple Tree Next Types simple_step tree_step next_step list_step
