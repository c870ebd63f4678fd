-- An object's shape has the fields that it declares, in their order.
use Rattle.std.proofs.Common.{◌≡◌, ℕ, zero, suc, ◌+◌, ◌<◌, Bool, List, [], ◌∷◌, ◌++◌, length, map, drop, replicate, Some, refl, sym, ap, ◌∙◌, subst, arith}
use Rattle.std.specs.List.{slice_get}
use Rattle.std.proofs.lemmas.List.{length-replicate}
use Rattle.std.proofs.lemmas.Option.{slice_get_within}
use Rattle.fort_types.specs.declared.hierarchy.DeclaredType.{DeclaredType}
use Rattle.fort_types.specs.declared.hierarchy.TypeKind.TheVariants as a_kind
use Rattle.fort_types.specs.Hierarchy.{DeclaredTypes}
use Rattle.fort_tree.specs.declared.declarations.Component.{Component}
use Rattle.fort_tree.specs.declared.declarations.Declaration.TheVariants as declaration
use Rattle.fort_tree.specs.declared.declarations.Object.{Object}
use Rattle.fort_types_builtin.specs.declared.objects.TheConstants.{OBJECT_COUNT}
use Rattle.fort_types_builtin.specs.declared.types.TheConstants.{TYPE_COUNT}
use Rattle.fort_types_builtin.specs.Objects.{place_behind, shapes_of, shapes_from}
use Rattle.fort_types_builtin.specs.Types.{BuiltInType, types, built_in_declared, declared_by_row}
use Rattle.fort_types_builtin.proofs.Lists.{get_dropped}
use Rattle.fort_types_builtin.proofs.PlainTypes.{built_in_count}
use Rattle.fort_core.specs.declared.program.CoreField.{CoreField}
use Rattle.fort_core.specs.declared.program.CoreShape.{CoreShape}
use Rattle.fort_hier.specs.Heads.{heads_of}
use Rattle.fort_hier.specs.Hierarchies.{declares}
use Rattle.fort_hier.specs.Numbers.{all_types, declared_by}
use Rattle.fort_hier.proofs.NamesWalk.{as_long, at_is}
use Rattle.fort_types_sets.specs.declared.field.Field.{Field}
use Rattle.fort_types_sets.specs.declared.member.MemberSet.{MemberSet}
use Rattle.fort_types_sets.specs.declared.member.Members.{Members}
use Rattle.fort_types_sets.specs.Leaves.{is_leaf}
use Rattle.fort_member_fields.specs.Own.{own_fields, types_of}
use Rattle.fort_member_fields.specs.Inherited.{IsListed, of_leaf, of_trait, EachOnce}
use Rattle.fort_member_fields.proofs.Items.{one}
use Rattle.fort_member.specs.Answers.{AreMembers}
use Rattle.fort_member.proofs.SetLaws.{get_mapped, get_of_mapped}
use Rattle.fort_elab_meaning.specs.Shapes.{Initial, core_field, places_of, shape_of, own_shapes, shapes}
use Rattle.fort_elab_law_matched.proofs.Types.{types_in, own_of_type, owns_are, kind_of_head, kind_of_type, kinds_are}

-- ---- items of lists

pub get_behind : {X : Type 0} (xs ys : List X) (n i : ℕ) → n ≡ length xs + i
    → slice_get (xs ++ ys) n ≡ slice_get ys i
get_behind [] ys n i e = ap (slice_get ys) (e ∙ omega arith)
get_behind (x ∷ xs) ys zero i e = absurd (omega (arith, e))
get_behind (x ∷ xs) ys (suc n) i e = get_behind xs ys n i (omega (arith, e))

get_within : {X : Type 0} (xs : List X) (i : ℕ) → i < length xs
    → (x : X) × (slice_get xs i ≡ Some x)
get_within [] i l = absurd (omega arith)
get_within (x ∷ xs) zero l = (x, refl)
get_within (x ∷ xs) (suc i) l = get_within xs i (omega arith)

-- ---- built-in shapes

built_in_long : (rows : List BuiltInType) (l : ℕ) → length (shapes_of rows l) ≡ length rows
built_in_long [] l = refl
built_in_long (row ∷ rows) l = let r = built_in_long rows (place_behind l row.kind) in omega arith

rows_long : length types ≡ TYPE_COUNT
unfolding built_in_declared
rows_long = sym (as_long declared_by_row types) ∙ built_in_count

from_long : (l : ℕ) → length (shapes_from l) ≡ TYPE_COUNT
unfolding shapes_from
from_long l = built_in_long types l ∙ rows_long

-- ---- the fields of an object

listed_own : (h : DeclaredTypes) (own : List (List Field)) (a : ℕ) (d : DeclaredType)
    (fs : List Field) → slice_get h a ≡ Some d → d.kind ≡ a_kind.Object → IsListed h own a fs
    → slice_get own a ≡ Some fs
listed_own h own a d fs e o (of_leaf l g) = g
listed_own h own a d fs e o (of_trait x ds further g t p r q) =
    let s : Some d ≡ Some x = sym e ∙ g in let same : d ≡ x = cc
    in absurd (clash (sym o ∙ ap (λ (z : DeclaredType). z.kind) same ∙ t))
  where
    clash : a_kind.Object ≡ a_kind.Trait → ⊥
    clash e = absurd cc

module _ (c : Component) (i : ℕ) (o : Object)
    (stands : slice_get (types_in c.declarations) i ≡ Some (declaration.Object o)) where
  -- the fields that it declares
  abbrev pub own : List Field
  own = own_of_type (types_of c) c.names (declaration.Object o)

  -- its number
  abbrev pub at : ℕ
  at = TYPE_COUNT + i

  it_declares : slice_get (own_fields c) at ≡ Some own
  it_declares =
      let built_in = replicate TYPE_COUNT [] in
      let long = length-replicate {A = List Field} TYPE_COUNT [] in
      ap (λ z. slice_get (built_in ++ z) at) (owns_are (types_of c) c.names c.declarations)
      ∙ ap (λ z. slice_get
      (built_in ++ map (own_of_type (types_of c) c.names) (types_in c.declarations)) (z + i))
      (sym long)
      ∙ at_is (own_of_type (types_of c) c.names) built_in (types_in c.declarations) i
      (declaration.Object o) stands

  it_is_object : (d : DeclaredType) × (slice_get (declares c) at ≡ Some d)
      × (d.kind ≡ a_kind.Object)
  it_is_object =
      let g = ap (λ z. slice_get z i) (kinds_are 0 c.declarations)
      ∙ get_of_mapped kind_of_type (types_in c.declarations) i (declaration.Object o) stands in
      let w = get_mapped kind_of_head (heads_of c) i a_kind.Object g in
      let f = declared_by (all_types c.names (heads_of c)) c.names in (
        f w.0,
        ap (λ z. slice_get (declares c) (z + i)) (sym built_in_count)
            ∙ at_is f built_in_declared (heads_of c) i w.0 w.1,
        w.2,
      )

  module _ (m : Members) (has : AreMembers c m) where
    within : at < length (declares c)
    within = slice_get_within (declares c) at it_is_object.0 it_is_object.1

    its_fields : (fs : List Field) × (slice_get m.fields at ≡ Some fs) × (fs ≡ own) × EachOnce fs
    its_fields =
        let l = within in let n = has.fields.fields.number in
        let w = get_within m.fields at (omega arith) in
        let are = has.fields.fields.each at w.0 w.1 in (
          w.0,
          w.1,
          one (own_fields c) at own w.0 it_declares
              (listed_own (declares c) (own_fields c) at it_is_object.0 w.0 it_is_object.1
              it_is_object.2 are.listed),
          are.once,
        )

    -- It has them alone, each name once.
    pub has_own : slice_get m.fields at ≡ Some own
    has_own = its_fields.1 ∙ ap Some its_fields.2

    pub own_once : EachOnce own
    own_once = subst EachOnce its_fields.2 its_fields.3

    it_is_leaf : (b : Bool) × (slice_get m.objects at ≡ Some b)
    it_is_leaf = (
      is_leaf it_is_object.0,
      ap (λ z. slice_get z at) has.objects
          ∙ get_of_mapped is_leaf (declares c) at it_is_object.0 it_is_object.1,
    )

    -- ---- its shape

    module _ (texts : List (List ℕ)) (is : List Initial) where
      abbrev core_fields : ℕ → List Field → List CoreField
      core_fields t fs = map (core_field texts is (record { 0 = t })) fs

      shape_at : (sets : List MemberSet) (t l u k : ℕ) (os : List Bool) (fss : List (List Field))
          (o : Bool) (fs : List Field) → u ≡ t + k → slice_get os k ≡ Some o
          → slice_get fss k ≡ Some fs
          → (s : CoreShape) × (slice_get (own_shapes texts is sets t l os fss) k ≡ Some s)
          × (s.fields ≡ core_fields u fs)
      shape_at sets t l u k [] fss o fs q e f = absurd cc
      shape_at sets t l u k (x ∷ os) [] o fs q e f = absurd cc
      shape_at sets t l u zero (x ∷ os) (ys ∷ fss) o fs q e f =
          let same : ys ≡ fs = cc in let number : t ≡ u = omega (arith, q) in (
            shape_of texts is sets (record { 0 = t }) l x ys,
            refl,
            ap (core_fields t) same
                ∙ ap (λ z. core_fields z fs) number,
          )
      shape_at sets t l u (suc k) (x ∷ os) (ys ∷ fss) o fs q e f =
          shape_at sets (t + 1)
          (l + places_of (shape_of texts is sets (record { 0 = t }) l x ys).kind (length ys)) u
          k os fss o fs (omega (arith, q)) e f

      pub its_shape : (s : CoreShape) × (slice_get (shapes texts is m) at ≡ Some s)
          × (s.fields ≡ core_fields at own)
      unfolding shapes
      its_shape =
          let v = length m.variables in
          let os = drop TYPE_COUNT m.objects in
          let fss = drop TYPE_COUNT m.fields in
          let w = shape_at m.sets TYPE_COUNT (v + OBJECT_COUNT) at i os fss it_is_leaf.0 own refl
          (get_dropped m.objects TYPE_COUNT i at it_is_leaf.0 refl it_is_leaf.1)
          (get_dropped m.fields TYPE_COUNT i at own refl has_own) in (
            w.0,
            get_behind (shapes_from v)
                (own_shapes texts is m.sets TYPE_COUNT (v + OBJECT_COUNT) os fss) at i
                (ap (λ z. z + i) (sym (from_long v))) ∙ w.1,
            w.2,
          )
