-- What the shapes of a program are, type by type: a built-in row, or a component's own type.
use Rattle.std.proofs.Common.{◌≡◌, inl, inr, ℕ, zero, suc, ◌+◌, Bool, true, false, cond, List, [], ◌∷◌, length, map, drop, Some, refl, sym, ap, ◌∙◌, subst, arith}
use Rattle.std.specs.List.{slice_get}
use Rattle.fort_base.specs.declared.ids.TypeId.{TypeId}
use Rattle.fort_types.specs.declared.hierarchy.TypeKind.{TypeKind}
use Rattle.fort_types.specs.declared.hierarchy.TypeKind.TheVariants as a_kind
use Rattle.fort_types.specs.Hierarchy.{Leaf}
use Rattle.fort_core.specs.declared.program.CoreKind.TheVariants as kind
use Rattle.fort_core.specs.declared.program.CoreShape.{CoreShape}
use Rattle.fort_tree.specs.declared.declarations.Component.{Component}
use Rattle.fort_types_builtin.specs.declared.objects.TheConstants.{OBJECT_COUNT}
use Rattle.fort_types_builtin.specs.declared.types.TheConstants.{TYPE_COUNT}
use Rattle.fort_types_builtin.specs.Objects.{kind_at, shape_at, place_behind, shapes_of, shapes_from}
use Rattle.fort_types_builtin.specs.Types.{BuiltInType, types, built_in_declared, declared_by_row}
use Rattle.fort_types_builtin.proofs.Lists.{get_dropped}
use Rattle.fort_types_builtin.proofs.PlainTypes.{built_in_count}
use Rattle.fort_hier.specs.Heads.{heads_of}
use Rattle.fort_hier.specs.Hierarchies.{declares}
use Rattle.fort_hier.specs.Numbers.{all_types, declared_by}
use Rattle.fort_hier.proofs.NamesWalk.{as_long}
use Rattle.fort_types_sets.specs.declared.field.Field.{Field}
use Rattle.fort_types_sets.specs.declared.member.MemberSet.{MemberSet}
use Rattle.fort_types_sets.specs.declared.member.Members.{Members}
use Rattle.fort_types_sets.specs.Leaves.{leaf_kind, is_leaf}
use Rattle.fort_member_fields.proofs.Items.{get_left}
use Rattle.fort_member.specs.Answers.{AreMembers}
use Rattle.fort_member.proofs.SetLaws.{get_mapped, get_of_mapped}
use Rattle.fort_sound_typed.specs.Typing.{Makes}
use Rattle.fort_elab_law_matched.proofs.Shapes.{get_behind}
use Rattle.fort_elab_meaning.specs.Shapes.{Initial, has_constructor, kind_of, places_of, shape_of, own_shapes, shapes}
use Rattle.fort_sound_program.proofs.Order.{type_number}
use Rattle.fort_sound_program.proofs.Placed.{either_side, nothing_plus}

-- ---- items of lists

pub dropped : {X : Type 0} (k : ℕ) (xs : List X) (i : ℕ) (x : X) → slice_get (drop k xs) i ≡ Some x
    → slice_get xs (k + i) ≡ Some x
dropped zero xs i x e = ap (slice_get xs) (nothing_plus i) ∙ e
dropped (suc k) [] i x e = absurd cc
dropped (suc k) (y ∷ xs) i x e = ap (slice_get (y ∷ xs))
    (let q : suc k + i ≡ suc (k + i) = omega arith in q) ∙ dropped k xs i x e

-- ---- built-in types

built_in_long : (rows : List BuiltInType) (l : ℕ) → length (shapes_of rows l) ≡ length rows
built_in_long [] l = refl
built_in_long (row ∷ rows) l = ap suc (built_in_long rows (place_behind l row.kind))

pub rows_long : length types ≡ TYPE_COUNT
unfolding built_in_declared
rows_long = sym (as_long declared_by_row types) ∙ built_in_count

pub from_long : (l : ℕ) → length (shapes_from l) ≡ TYPE_COUNT
unfolding shapes_from
from_long l = built_in_long types l ∙ rows_long

row_at : (rows : List BuiltInType) (l k : ℕ) (s : CoreShape)
    → slice_get (shapes_of rows l) k ≡ Some s
    → (row : BuiltInType) × (b : ℕ) × (slice_get rows k ≡ Some row) × (s ≡ shape_at b row.kind)
row_at [] l k s e = absurd cc
row_at (row ∷ rows) l zero s e = (row, l, refl, (let q : shape_at l row.kind ≡ s = cc in sym q))
row_at (row ∷ rows) l (suc k) s e = row_at rows (place_behind l row.kind) k s e

pub from_at : (l k : ℕ) (s : CoreShape) → slice_get (shapes_from l) k ≡ Some s
    → (row : BuiltInType) × (b : ℕ) × (slice_get types k ≡ Some row) × (s ≡ shape_at b row.kind)
unfolding shapes_from
from_at l k s e = row_at types l k s e

pub declared_row : (c : Component) (k : ℕ) (row : BuiltInType) → slice_get types k ≡ Some row
    → slice_get (declares c) k ≡ Some (declared_by_row row)
unfolding built_in_declared
declared_row c k row e =
    get_left built_in_declared
    (map (declared_by (all_types c.names (heads_of c)) c.names) (heads_of c)) k
    (declared_by_row row) (get_of_mapped declared_by_row types k row e)

-- ---- a component's own types

module _ (texts : List (List ℕ)) (is : List Initial) (sets : List MemberSet) where
  -- a shape of a type with that number, where it is an object, and with these fields
  pub record Own (t : ℕ) (o : Bool) (fs : List Field) (s : CoreShape) : Type 0 where
    pub base : ℕ
    pub is_shape : s ≡ shape_of texts is sets (type_number t) base o fs

  pub own_at : (t l u k : ℕ) (os : List Bool) (fss : List (List Field)) (s : CoreShape) → u ≡ t + k
      → slice_get (own_shapes texts is sets t l os fss) k ≡ Some s
      → (o : Bool) × (fs : List Field) × (slice_get os k ≡ Some o) × (slice_get fss k ≡ Some fs)
      × Own u o fs s
  own_at t l u k [] fss s q e = absurd cc
  own_at t l u k (o ∷ os) [] s q e = absurd cc
  own_at t l u zero (o ∷ os) (fs ∷ fss) s q e =
      let same : shape_of texts is sets (type_number t) l o fs ≡ s = cc in
      let number : t ≡ u = omega (arith, q) in (
        o,
        fs,
        refl,
        refl,
        record {
          base = l;
          is_shape =
              sym same ∙ ap (λ n. shape_of texts is sets (type_number n) l o fs) number;
        },
      )
  own_at t l u (suc k) (o ∷ os) (fs ∷ fss) s q e =
      own_at (t + 1)
      (l + places_of (shape_of texts is sets (type_number t) l o fs).kind (length fs)) u k os
      fss s (omega (arith, q)) e

  pub own_there : (t l u k : ℕ) (os : List Bool) (fss : List (List Field)) (o : Bool)
      (fs : List Field) → u ≡ t + k → slice_get os k ≡ Some o → slice_get fss k ≡ Some fs
      → (s : CoreShape) × (slice_get (own_shapes texts is sets t l os fss) k ≡ Some s)
      × Own u o fs s
  own_there t l u k [] fss o fs q e f = absurd cc
  own_there t l u k (x ∷ os) [] o fs q e f = absurd cc
  own_there t l u zero (x ∷ os) (ys ∷ fss) o fs q e f =
      let same : ys ≡ fs = cc in let too : x ≡ o = cc in let number : t ≡ u = omega (arith, q) in (
        shape_of texts is sets (type_number t) l x ys,
        refl,
        record {
          base = l;
          is_shape =
              ap (λ n. shape_of texts is sets (type_number n) l x ys) number
              ∙ ap (λ z. shape_of texts is sets (type_number u) l z ys) too
              ∙ ap (shape_of texts is sets (type_number u) l o) same;
        },
      )
  own_there t l u (suc k) (x ∷ os) (ys ∷ fss) o fs q e f =
      own_there (t + 1)
      (l + places_of (shape_of texts is sets (type_number t) l x ys).kind (length ys)) u k os
      fss o fs (omega (arith, q)) e f

-- ---- all types

made_built_in : (b : ℕ) (k : TypeKind) → Makes (kind_at b k) → k ≡ a_kind.Object
made_built_in b a_kind.Trait h = absurd h
made_built_in b a_kind.Object h = refl
made_built_in b a_kind.Leaf h = absurd h

made_own : (sets : List MemberSet) (t : TypeId) (l : ℕ) (o : Bool) → Makes (kind_of sets t l o)
    → o ≡ true
made_own sets t l true h = refl
made_own sets t l false h = absurd h

makes_step : (l : ℕ) (b : Bool) → Makes (cond b kind.Object (kind.Single (record { 0 = l })))
makes_step l true = tt
makes_step l false = tt

-- objects make values
pub makes_object : (sets : List MemberSet) (t : TypeId) (l : ℕ) (o : Bool) → o ≡ true
    → Makes (kind_of sets t l o)
makes_object sets t l true e = makes_step l (has_constructor sets t)
makes_object sets t l false e = absurd cc

object_no_trait : a_kind.Object ≡ a_kind.Trait → ⊥
object_no_trait e = absurd cc

leaf_no_trait : (k : TypeKind) → leaf_kind k ≡ true → k ≡ a_kind.Trait → ⊥
leaf_no_trait a_kind.Trait e f = absurd cc
leaf_no_trait a_kind.Object e f = absurd cc
leaf_no_trait a_kind.Leaf e f = absurd cc

module _ (c : Component) (m : Members) (has : AreMembers c m) (texts : List (List ℕ))
    (is : List Initial) where
  -- what the shape of a number is
  pub data Told (n : ℕ) (s : CoreShape) : Type 0 where
    built_in : (row : BuiltInType) (b : ℕ) → slice_get types n ≡ Some row → s ≡ shape_at b row.kind
        → Told n s
    own : (k : ℕ) → n ≡ TYPE_COUNT + k → (o : Bool) (fs : List Field)
        → slice_get m.objects n ≡ Some o → slice_get m.fields n ≡ Some fs
        → Own texts is m.sets n o fs s → Told n s

  pub told : (n : ℕ) (s : CoreShape) → slice_get (shapes texts is m) n ≡ Some s → Told n s
  unfolding shapes
  told n s e =
      let v = length m.variables
      in let own_list =
      own_shapes texts is m.sets TYPE_COUNT (v + OBJECT_COUNT) (drop TYPE_COUNT m.objects)
      (drop TYPE_COUNT m.fields) in
      elim (either_side (shapes_from v) own_list n s e) as (λ _. Told n s) [
        | inl f ↦ (let w = from_at v n s f in built_in w.0 w.1 w.2 w.3)
        | inr w ↦ (let number : n ≡ TYPE_COUNT + w.0 = w.1 ∙ ap (λ z. z + w.0) (from_long v) in
            let q = own_at texts is m.sets TYPE_COUNT (v + OBJECT_COUNT) n w.0
            (drop TYPE_COUNT m.objects) (drop TYPE_COUNT m.fields) s number w.2 in
            own w.0 number q.0 q.1 (ap (slice_get m.objects) number
            ∙ dropped TYPE_COUNT m.objects w.0 q.0 q.2) (ap (slice_get m.fields) number
            ∙ dropped TYPE_COUNT m.fields w.0 q.1 q.3) q.4)
      ]

  -- the shape of a type of the component
  pub own_shape : (n k : ℕ) (o : Bool) (fs : List Field) → n ≡ TYPE_COUNT + k
      → slice_get m.objects n ≡ Some o → slice_get m.fields n ≡ Some fs
      → (s : CoreShape) × (slice_get (shapes texts is m) n ≡ Some s) × Own texts is m.sets n o fs s
  unfolding shapes
  own_shape n k o fs q e f =
      let v = length m.variables
      in let own_list =
      own_shapes texts is m.sets TYPE_COUNT (v + OBJECT_COUNT) (drop TYPE_COUNT m.objects)
      (drop TYPE_COUNT m.fields) in
      let w = own_there texts is m.sets TYPE_COUNT (v + OBJECT_COUNT) n k
      (drop TYPE_COUNT m.objects) (drop TYPE_COUNT m.fields) o fs q
      (get_dropped m.objects TYPE_COUNT k n o q e) (get_dropped m.fields TYPE_COUNT k n fs q f) in (
        w.0,
        get_behind (shapes_from v) own_list n k (q ∙ ap (λ z. z + k) (sym (from_long v)))
            ∙ w.1,
        w.2,
      )

  -- a type that makes values is an object
  pub made_leaf : (n : ℕ) (s : CoreShape) → Told n s → Makes s.kind → Leaf (declares c) n
  made_leaf n s (built_in row b e q) h =
      let object : row.kind ≡ a_kind.Object =
      made_built_in b row.kind (subst (λ (z : CoreShape). Makes z.kind) q h) in
      (declared_by_row row, declared_row c n row e, λ t. object_no_trait (sym object ∙ t))
  made_leaf n s (own k q o fs e f w) h =
      let yes : o ≡ true =
      made_own m.sets (type_number n) w.base o (subst (λ
      (z : CoreShape). Makes z.kind) w.is_shape h) in
      let d = get_mapped is_leaf (declares c) n true (ap (λ z. slice_get z n) (sym has.objects) ∙ e
      ∙ ap Some yes) in
      (d.0, d.1, leaf_no_trait d.0.kind d.2)
