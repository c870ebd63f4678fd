-- The chapter "Grammar", trees apart from places: a fold of a moved type is the fold of the type,
-- moved, where this is so of each level.
use Rattle.std.proofs.Common.{◌≡◌, Some, None, refl, sym, ap, ◌∙◌, subst}
use Rattle.fort_base.specs.declared.refusal.Place.{Place}
use Rattle.fort_tree.specs.declared.types.SimpleType.{SimpleType}
use Rattle.fort_tree.specs.declared.types.TypeTree.{TypeTree}
use Rattle.fort_tree.specs.declared.types.NextType.{NextType}
use Rattle.fort_tree.specs.declared.types.TypeList.{TypeList}
use Rattle.fort_tree.specs.declared.types.SimpleType.TheOpen.{SimpleType-F, TypeTree-F, NextType-F, TypeList-F}
use Rattle.fort_tree.specs.declared.types.SimpleType.TheFolds.{fold-SimpleType, fold-roll-SimpleType, map-SimpleType, fold-TypeTree, fold-roll-TypeTree, map-TypeTree, ind-TypeTree, fold-NextType, fold-roll-NextType, map-NextType, fold-TypeList, fold-roll-TypeList, map-TypeList}
use Rattle.fort_tree.specs.declared.types.SimpleType.TheViews.{roll-SimpleType, roll-TypeTree, roll-NextType, roll-TypeList}
use Rattle.fort_tree_law_moved.specs.Spots.{moved_spot, moved_name}
use Rattle.fort_tree_law_moved.proofs.Parts.{each_met}
use Rattle.fort_tree_law_moved.specs.TypesMoved.{simple_type_level, move_simple_type, moved_simple_type, type_level, move_type, moved_type, next_type_level, move_next_type, moved_next_type, type_list_level, move_type_list, moved_type_list}

-- ---- a moved tree, by its level

module _ (g : Place → Place) where
  -- the parts of one level of a simple type, moved
  abbrev pub moving_simple_type : SimpleType-F SimpleType TypeTree NextType TypeList
      → SimpleType-F SimpleType TypeTree NextType TypeList
  moving_simple_type =
      map-SimpleType SimpleType TypeTree NextType TypeList SimpleType TypeTree NextType TypeList
      (moved_simple_type g) (moved_type g) (moved_next_type g) (moved_type_list g)

  -- a simple type moved, by its level
  moved_roll_simple_type : (l : SimpleType-F SimpleType TypeTree NextType TypeList)
      → moved_simple_type g (roll-SimpleType l)
      ≡ roll-SimpleType (simple_type_level g (moving_simple_type l))
  unfolding moved_simple_type moved_type moved_next_type moved_type_list
  moved_roll_simple_type l =
      fold-roll-SimpleType SimpleType TypeTree NextType TypeList (move_simple_type g) (move_type g)
      (move_next_type g) (move_type_list g) l

  -- the parts of one level of a type, moved
  abbrev pub moving_type : TypeTree-F SimpleType TypeTree NextType TypeList
      → TypeTree-F SimpleType TypeTree NextType TypeList
  moving_type =
      map-TypeTree SimpleType TypeTree NextType TypeList SimpleType TypeTree NextType TypeList
      (moved_simple_type g) (moved_type g) (moved_next_type g) (moved_type_list g)

  -- a type moved, by its level
  moved_roll_type : (l : TypeTree-F SimpleType TypeTree NextType TypeList)
      → moved_type g (roll-TypeTree l) ≡ roll-TypeTree (type_level g (moving_type l))
  unfolding moved_simple_type moved_type moved_next_type moved_type_list
  moved_roll_type l =
      fold-roll-TypeTree SimpleType TypeTree NextType TypeList (move_simple_type g) (move_type g)
      (move_next_type g) (move_type_list g) l

  -- the parts of one level of a further type of a list, moved
  abbrev pub moving_next_type : NextType-F SimpleType TypeTree NextType TypeList
      → NextType-F SimpleType TypeTree NextType TypeList
  moving_next_type =
      map-NextType SimpleType TypeTree NextType TypeList SimpleType TypeTree NextType TypeList
      (moved_simple_type g) (moved_type g) (moved_next_type g) (moved_type_list g)

  -- a further type of a list moved, by its level
  moved_roll_next_type : (l : NextType-F SimpleType TypeTree NextType TypeList)
      → moved_next_type g (roll-NextType l) ≡ roll-NextType (next_type_level g (moving_next_type l))
  unfolding moved_simple_type moved_type moved_next_type moved_type_list
  moved_roll_next_type l =
      fold-roll-NextType SimpleType TypeTree NextType TypeList (move_simple_type g) (move_type g)
      (move_next_type g) (move_type_list g) l

  -- the parts of one level of a list of types, moved
  abbrev pub moving_type_list : TypeList-F SimpleType TypeTree NextType TypeList
      → TypeList-F SimpleType TypeTree NextType TypeList
  moving_type_list =
      map-TypeList SimpleType TypeTree NextType TypeList SimpleType TypeTree NextType TypeList
      (moved_simple_type g) (moved_type g) (moved_next_type g) (moved_type_list g)

  -- a list of types moved, by its level
  moved_roll_type_list : (l : TypeList-F SimpleType TypeTree NextType TypeList)
      → moved_type_list g (roll-TypeList l) ≡ roll-TypeList (type_list_level g (moving_type_list l))
  unfolding moved_simple_type moved_type moved_next_type moved_type_list
  moved_roll_type_list l =
      fold-roll-TypeList SimpleType TypeTree NextType TypeList (move_simple_type g) (move_type g)
      (move_next_type g) (move_type_list g) l

-- ---- folds: by carriers, steps, and what moving is there

module _ (g : Place → Place) (S T N L : Type 0)
    (s_simple_type : SimpleType-F S T N L → S)
    (s_type : TypeTree-F S T N L → T)
    (s_next_type : NextType-F S T N L → N)
    (s_type_list : TypeList-F S T N L → L)
    (h_simple_type : S → S)
    (h_type : T → T)
    (h_next_type : N → N)
    (h_type_list : L → L)
    (meets_simple_type : (l : SimpleType-F S T N L)
    → s_simple_type
    (simple_type_level g
    (map-SimpleType S T N L S T N L h_simple_type h_type h_next_type h_type_list l))
    ≡ h_simple_type (s_simple_type l))
    (meets_type : (l : TypeTree-F S T N L)
    → s_type (type_level g
    (map-TypeTree S T N L S T N L h_simple_type h_type h_next_type h_type_list l))
    ≡ h_type (s_type l))
    (meets_next_type : (l : NextType-F S T N L)
    → s_next_type
    (next_type_level g
    (map-NextType S T N L S T N L h_simple_type h_type h_next_type h_type_list l))
    ≡ h_next_type (s_next_type l))
    (meets_type_list : (l : TypeList-F S T N L)
    → s_type_list
    (type_list_level g
    (map-TypeList S T N L S T N L h_simple_type h_type h_next_type h_type_list l))
    ≡ h_type_list (s_type_list l)) where
  -- a simple type, told
  unfoldable told_simple_type : SimpleType → S
  told_simple_type = fold-SimpleType S T N L s_simple_type s_type s_next_type s_type_list

  -- a simple type, of which it is so
  abbrev MetSimpleType : Type 0
  MetSimpleType = (t : SimpleType)
      × (told_simple_type (moved_simple_type g t) ≡ h_simple_type (told_simple_type t))

  -- a type, told
  unfoldable told_type : TypeTree → T
  told_type = fold-TypeTree S T N L s_simple_type s_type s_next_type s_type_list

  -- a type, of which it is so
  abbrev MetTypeTree : Type 0
  MetTypeTree = (t : TypeTree) × (told_type (moved_type g t) ≡ h_type (told_type t))

  -- a further type of a list, told
  unfoldable told_next_type : NextType → N
  told_next_type = fold-NextType S T N L s_simple_type s_type s_next_type s_type_list

  -- a further type of a list, of which it is so
  abbrev MetNextType : Type 0
  MetNextType = (t : NextType)
      × (told_next_type (moved_next_type g t) ≡ h_next_type (told_next_type t))

  -- a list of types, told
  unfoldable told_type_list : TypeList → L
  told_type_list = fold-TypeList S T N L s_simple_type s_type s_next_type s_type_list

  -- a list of types, of which it is so
  abbrev MetTypeList : Type 0
  MetTypeList = (t : TypeList)
      × (told_type_list (moved_type_list g t) ≡ h_type_list (told_type_list t))

  -- a simple type
  abbrev telling_simple_type : SimpleType-F SimpleType TypeTree NextType TypeList
      → SimpleType-F S T N L
  telling_simple_type =
      map-SimpleType SimpleType TypeTree NextType TypeList S T N L told_simple_type told_type
      told_next_type told_type_list

  -- one level of a simple type, its parts alone
  abbrev parts_simple_type : SimpleType-F MetSimpleType MetTypeTree MetNextType MetTypeList
      → SimpleType-F SimpleType TypeTree NextType TypeList
  parts_simple_type =
      map-SimpleType MetSimpleType MetTypeTree MetNextType MetTypeList SimpleType TypeTree NextType
      TypeList (λ e. e.0) (λ e. e.0) (λ e. e.0) (λ e. e.0)

  -- a simple type, told by its level
  told_roll_simple_type : (l : SimpleType-F SimpleType TypeTree NextType TypeList)
      → told_simple_type (roll-SimpleType l) ≡ s_simple_type (telling_simple_type l)
  unfolding told_simple_type told_type told_next_type told_type_list
  told_roll_simple_type l =
      fold-roll-SimpleType S T N L s_simple_type s_type s_next_type s_type_list l

  -- one level of a simple type, whose parts meet
  met_simple_type : (y : SimpleType-F MetSimpleType MetTypeTree MetNextType MetTypeList)
      → telling_simple_type (simple_type_level g (moving_simple_type g (parts_simple_type y)))
      ≡ simple_type_level g
      (map-SimpleType S T N L S T N L h_simple_type h_type h_next_type h_type_list
      (telling_simple_type (parts_simple_type y)))
  met_simple_type (SimpleType-F.Named n) = refl
  met_simple_type (SimpleType-F.Array array left element comma index right) =
      λ i. SimpleType-F.Array (moved_name g array) (moved_spot g left) (element.1 i)
      (moved_spot g comma) (moved_name g index) (moved_spot g right)
  met_simple_type (SimpleType-F.Parts left None right) = refl
  met_simple_type (SimpleType-F.Parts left (Some parts) right) =
      λ i. SimpleType-F.Parts (moved_spot g left) (Some (parts.1 i)) (moved_spot g right)

  -- a type
  abbrev telling_type : TypeTree-F SimpleType TypeTree NextType TypeList → TypeTree-F S T N L
  telling_type =
      map-TypeTree SimpleType TypeTree NextType TypeList S T N L told_simple_type told_type
      told_next_type told_type_list

  -- one level of a type, its parts alone
  abbrev parts_type : TypeTree-F MetSimpleType MetTypeTree MetNextType MetTypeList
      → TypeTree-F SimpleType TypeTree NextType TypeList
  parts_type =
      map-TypeTree MetSimpleType MetTypeTree MetNextType MetTypeList SimpleType TypeTree NextType
      TypeList (λ e. e.0) (λ e. e.0) (λ e. e.0) (λ e. e.0)

  -- a type, told by its level
  told_roll_type : (l : TypeTree-F SimpleType TypeTree NextType TypeList)
      → told_type (roll-TypeTree l) ≡ s_type (telling_type l)
  unfolding told_simple_type told_type told_next_type told_type_list
  told_roll_type l = fold-roll-TypeTree S T N L s_simple_type s_type s_next_type s_type_list l

  -- one level of a type, whose parts meet
  met_type : (y : TypeTree-F MetSimpleType MetTypeTree MetNextType MetTypeList)
      → telling_type (type_level g (moving_type g (parts_type y)))
      ≡ type_level g
      (map-TypeTree S T N L S T N L h_simple_type h_type h_next_type h_type_list
      (telling_type (parts_type y)))
  met_type (TypeTree-F.Simple simple) = λ i. TypeTree-F.Simple (simple.1 i)
  met_type (TypeTree-F.Arrow domain arrow result) =
      λ i. TypeTree-F.Arrow (domain.1 i) (moved_spot g arrow) (result.1 i)

  -- a further type of a list
  abbrev telling_next_type : NextType-F SimpleType TypeTree NextType TypeList → NextType-F S T N L
  telling_next_type =
      map-NextType SimpleType TypeTree NextType TypeList S T N L told_simple_type told_type
      told_next_type told_type_list

  -- one level of a further type of a list, its parts alone
  abbrev parts_next_type : NextType-F MetSimpleType MetTypeTree MetNextType MetTypeList
      → NextType-F SimpleType TypeTree NextType TypeList
  parts_next_type =
      map-NextType MetSimpleType MetTypeTree MetNextType MetTypeList SimpleType TypeTree NextType
      TypeList (λ e. e.0) (λ e. e.0) (λ e. e.0) (λ e. e.0)

  -- a further type of a list, told by its level
  told_roll_next_type : (l : NextType-F SimpleType TypeTree NextType TypeList)
      → told_next_type (roll-NextType l) ≡ s_next_type (telling_next_type l)
  unfolding told_simple_type told_type told_next_type told_type_list
  told_roll_next_type l = fold-roll-NextType S T N L s_simple_type s_type s_next_type s_type_list l

  -- one level of a further type of a list, whose parts meet
  met_next_type : (y : NextType-F MetSimpleType MetTypeTree MetNextType MetTypeList)
      → telling_next_type (next_type_level g (moving_next_type g (parts_next_type y)))
      ≡ next_type_level g
      (map-NextType S T N L S T N L h_simple_type h_type h_next_type h_type_list
      (telling_next_type (parts_next_type y)))
  met_next_type y = λ i. record { comma = moved_spot g y.comma; ty = y.ty.1 i }

  -- a list of types
  abbrev telling_type_list : TypeList-F SimpleType TypeTree NextType TypeList → TypeList-F S T N L
  telling_type_list =
      map-TypeList SimpleType TypeTree NextType TypeList S T N L told_simple_type told_type
      told_next_type told_type_list

  -- one level of a list of types, its parts alone
  abbrev parts_type_list : TypeList-F MetSimpleType MetTypeTree MetNextType MetTypeList
      → TypeList-F SimpleType TypeTree NextType TypeList
  parts_type_list =
      map-TypeList MetSimpleType MetTypeTree MetNextType MetTypeList SimpleType TypeTree NextType
      TypeList (λ e. e.0) (λ e. e.0) (λ e. e.0) (λ e. e.0)

  -- a list of types, told by its level
  told_roll_type_list : (l : TypeList-F SimpleType TypeTree NextType TypeList)
      → told_type_list (roll-TypeList l) ≡ s_type_list (telling_type_list l)
  unfolding told_simple_type told_type told_next_type told_type_list
  told_roll_type_list l = fold-roll-TypeList S T N L s_simple_type s_type s_next_type s_type_list l

  -- one level of a list of types, whose parts meet
  met_type_list : (y : TypeList-F MetSimpleType MetTypeTree MetNextType MetTypeList)
      → telling_type_list (type_list_level g (moving_type_list g (parts_type_list y)))
      ≡ type_list_level g
      (map-TypeList S T N L S T N L h_simple_type h_type h_next_type h_type_list
      (telling_type_list (parts_type_list y)))
  met_type_list y =
      λ i. record {
        first = y.first.1 i;
        others = each_met told_next_type (moved_next_type g) h_next_type y.others i;
      }

  -- a simple type, by its parts
  step_simple_type : (x : SimpleType-F SimpleType TypeTree NextType TypeList)
      (y : SimpleType-F MetSimpleType MetTypeTree MetNextType MetTypeList) → parts_simple_type y ≡ x
      → told_simple_type (moved_simple_type g (roll-SimpleType x))
      ≡ h_simple_type (told_simple_type (roll-SimpleType x))
  step_simple_type x y is =
      subst (λ x. told_simple_type (moved_simple_type g (roll-SimpleType x))
      ≡ h_simple_type (told_simple_type (roll-SimpleType x))) is
      (ap told_simple_type (moved_roll_simple_type g (parts_simple_type y))
      ∙ told_roll_simple_type
      (simple_type_level g (moving_simple_type g (parts_simple_type y)))
      ∙ ap s_simple_type (met_simple_type y)
      ∙ meets_simple_type (telling_simple_type (parts_simple_type y))
      ∙ ap h_simple_type (sym (told_roll_simple_type (parts_simple_type y))))

  -- a type, by its parts
  step_type : (x : TypeTree-F SimpleType TypeTree NextType TypeList)
      (y : TypeTree-F MetSimpleType MetTypeTree MetNextType MetTypeList) → parts_type y ≡ x
      → told_type (moved_type g (roll-TypeTree x)) ≡ h_type (told_type (roll-TypeTree x))
  step_type x y is =
      subst (λ x. told_type (moved_type g (roll-TypeTree x))
      ≡ h_type (told_type (roll-TypeTree x))) is
      (ap told_type (moved_roll_type g (parts_type y))
      ∙ told_roll_type (type_level g (moving_type g (parts_type y)))
      ∙ ap s_type (met_type y)
      ∙ meets_type (telling_type (parts_type y)) ∙ ap h_type (sym (told_roll_type (parts_type y))))

  -- a further type of a list, by its parts
  step_next_type : (x : NextType-F SimpleType TypeTree NextType TypeList)
      (y : NextType-F MetSimpleType MetTypeTree MetNextType MetTypeList) → parts_next_type y ≡ x
      → told_next_type (moved_next_type g (roll-NextType x))
      ≡ h_next_type (told_next_type (roll-NextType x))
  step_next_type x y is =
      subst (λ x. told_next_type (moved_next_type g (roll-NextType x))
      ≡ h_next_type (told_next_type (roll-NextType x))) is
      (ap told_next_type (moved_roll_next_type g (parts_next_type y))
      ∙ told_roll_next_type (next_type_level g (moving_next_type g (parts_next_type y)))
      ∙ ap s_next_type (met_next_type y)
      ∙ meets_next_type (telling_next_type (parts_next_type y))
      ∙ ap h_next_type (sym (told_roll_next_type (parts_next_type y))))

  -- a list of types, by its parts
  step_type_list : (x : TypeList-F SimpleType TypeTree NextType TypeList)
      (y : TypeList-F MetSimpleType MetTypeTree MetNextType MetTypeList) → parts_type_list y ≡ x
      → told_type_list (moved_type_list g (roll-TypeList x))
      ≡ h_type_list (told_type_list (roll-TypeList x))
  step_type_list x y is =
      subst (λ x. told_type_list (moved_type_list g (roll-TypeList x))
      ≡ h_type_list (told_type_list (roll-TypeList x))) is
      (ap told_type_list (moved_roll_type_list g (parts_type_list y))
      ∙ told_roll_type_list (type_list_level g (moving_type_list g (parts_type_list y)))
      ∙ ap s_type_list (met_type_list y)
      ∙ meets_type_list (telling_type_list (parts_type_list y))
      ∙ ap h_type_list (sym (told_roll_type_list (parts_type_list y))))

  -- a type: a fold of it moved
  pub fold_moved_type : (t : TypeTree)
      → fold-TypeTree S T N L s_simple_type s_type s_next_type s_type_list (moved_type g t)
      ≡ h_type (fold-TypeTree S T N L s_simple_type s_type s_next_type s_type_list t)
  unfolding told_type
  fold_moved_type =
      ind-TypeTree (λ t. told_simple_type (moved_simple_type g t)
      ≡ h_simple_type (told_simple_type t)) (λ t. told_type (moved_type g t)
      ≡ h_type (told_type t)) (λ t. told_next_type (moved_next_type g t)
      ≡ h_next_type (told_next_type t)) (λ t. told_type_list (moved_type_list g t)
      ≡ h_type_list (told_type_list t)) step_simple_type step_type step_next_type step_type_list
