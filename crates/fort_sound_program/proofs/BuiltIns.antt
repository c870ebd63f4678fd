-- The built-in types of a program: leaves, and single objects that are exceptions.
use Rattle.std.proofs.Common.{◌≡◌, ◌⊎◌, inl, inr, ◌<◌, ℕ, zero, suc, List, [], ◌∷◌, length, Some, None, refl, sym, ap, ◌∙◌, subst, arith}
use Rattle.std.specs.Prelude.{◌≤◌, option_and_then, Contains}
use Rattle.std.specs.List.{slice_get}
use Rattle.std.proofs.lemmas.Option.{slice_get_within}
use Rattle.fort_base.specs.declared.ids.Loc.{Loc}
use Rattle.fort_base.specs.declared.ids.NameId.{NameId}
use Rattle.fort_base.specs.declared.ids.TypeId.{TypeId}
use Rattle.fort_base.specs.declared.ty.Ty.{Ty}
use Rattle.fort_base.specs.declared.ty.Ty.TheVariants.{Named, outs-Named}
use Rattle.fort_types.specs.declared.hierarchy.DeclaredType.{DeclaredType}
use Rattle.fort_types.specs.declared.hierarchy.TypeKind.TheVariants as a_kind
use Rattle.fort_types.specs.Hierarchy.{Path, stop, along, Leaf}
use Rattle.fort_types.specs.Types.{named}
use Rattle.fort_core.specs.declared.program.BuiltIn.{BuiltIn}
use Rattle.fort_core.specs.declared.program.CoreKind.TheVariants as kind
use Rattle.fort_core.specs.declared.program.CoreShape.{CoreShape}
use Rattle.fort_core.specs.declared.program.Program.{Program}
use Rattle.fort_core.specs.declared.value.Value.{Value, Object as ObjectValue}
use Rattle.fort_machine.specs.Acts.{single, object_of}
use Rattle.fort_machine.specs.Forms.{place_of}
use Rattle.fort_lex_token.specs.declared.token.Tokens.{Tokens}
use Rattle.fort_tree.specs.declared.declarations.Component.{Component}
use Rattle.fort_tree.specs.declared.grouped.Groups.{Groups}
use Rattle.fort_types_builtin.specs.declared.types.TheConstants.{BUILT_IN, TYPE_COUNT, OBJECT, EXCEPTION}
use Rattle.fort_types_builtin.specs.Objects.{location, kind_at, shape_at, place_behind, shapes_of, shapes_from}
use Rattle.fort_types_builtin.specs.Types.{BuiltInType, types, declared_by_row, above_of}
use Rattle.fort_types_builtin.proofs.PlainTypes.{plain_at}
use Rattle.fort_hier.specs.declared.accepted.Hierarchy.{Hierarchy}
use Rattle.fort_hier.specs.Hierarchies.{declares}
use Rattle.fort_types_sets.specs.declared.member.Members.{Members}
use Rattle.fort_member_fields.proofs.Items.{get_left, one}
use Rattle.fort_member.proofs.Numbered.{named_numbered}
use Rattle.fort_form_typed.specs.declared.component.Typed.{Typed}
use Rattle.fort_sound_typed.specs.Typing.{Below, ShapeOf, Makes, FieldOf, HasV, thrown_type}
use Rattle.fort_sound_typed.specs.Sound.{opening, IsFailure, Under}
use Rattle.fort_sound_typed.specs.Goes.{IsBuiltIn}
use Rattle.fort_sound_typed.proofs.Computed.{through}
use Rattle.fort_sound_typed.proofs.Order.{transitive}
use Rattle.fort_sound_typed.proofs.Rules.{sub_v}
use Rattle.fort_elab_meaning.specs.Shapes.{own_shapes, shapes}
use Rattle.fort_sound_program.specs.Checked.{Checked}
use Rattle.fort_sound_program.proofs.BuiltInTypes.{stays, counted, built_in_at}
use Rattle.fort_sound_program.proofs.Order.{type_number, below, path, only_itself, rows_through}
use Rattle.fort_sound_program.proofs.Shapes.{Told, built_in, own, rows_long, declared_row}
use Rattle.fort_sound_program.proofs.Store.{told_at, single_has}

-- ---- rows

-- a leaf, or an exception, of the table
pub record LeafRow (n : ℕ) : Type 0 where
  pub row : BuiltInType
  pub stands : slice_get types n ≡ Some row
  pub kind_is : row.kind ≡ a_kind.Leaf
  pub extends_is : row.extends ≡ Some OBJECT

pub record ExceptionRow (n : ℕ) : Type 0 where
  pub row : BuiltInType
  pub stands : slice_get types n ≡ Some row
  pub kind_is : row.kind ≡ a_kind.Object
  pub extends_is : row.extends ≡ Some EXCEPTION

leaf2 : LeafRow 2
unfolding types
leaf2 = record { row = _; stands = refl; kind_is = refl; extends_is = refl }

leaf3 : LeafRow 3
unfolding types
leaf3 = record { row = _; stands = refl; kind_is = refl; extends_is = refl }

leaf4 : LeafRow 4
unfolding types
leaf4 = record { row = _; stands = refl; kind_is = refl; extends_is = refl }

leaf5 : LeafRow 5
unfolding types
leaf5 = record { row = _; stands = refl; kind_is = refl; extends_is = refl }

leaf6 : LeafRow 6
unfolding types
leaf6 = record { row = _; stands = refl; kind_is = refl; extends_is = refl }

exception7 : ExceptionRow 7
unfolding types
exception7 = record { row = _; stands = refl; kind_is = refl; extends_is = refl }

exception8 : ExceptionRow 8
unfolding types
exception8 = record { row = _; stands = refl; kind_is = refl; extends_is = refl }

exception9 : ExceptionRow 9
unfolding types
exception9 = record { row = _; stands = refl; kind_is = refl; extends_is = refl }

exception10 : ExceptionRow 10
unfolding types
exception10 = record { row = _; stands = refl; kind_is = refl; extends_is = refl }

exception11 : ExceptionRow 11
unfolding types
exception11 = record { row = _; stands = refl; kind_is = refl; extends_is = refl }

pub exception12 : ExceptionRow 12
unfolding types
exception12 = record { row = _; stands = refl; kind_is = refl; extends_is = refl }

pub exception13 : ExceptionRow 13
unfolding types
exception13 = record { row = _; stands = refl; kind_is = refl; extends_is = refl }

exception14 : ExceptionRow 14
unfolding types
exception14 = record { row = _; stands = refl; kind_is = refl; extends_is = refl }

exception15 : ExceptionRow 15
unfolding types
exception15 = record { row = _; stands = refl; kind_is = refl; extends_is = refl }

exception16 : ExceptionRow 16
unfolding types
exception16 = record { row = _; stands = refl; kind_is = refl; extends_is = refl }

-- the built-in leaves of a program
abbrev AmongLeaves : BuiltIn → TypeId → Type 0
AmongLeaves b id = (id ≡ b.small) ⊎ (id ≡ b.large) ⊎ (id ≡ b.text) ⊎ (id ≡ b.truth) ⊎ (id ≡ b.range)

leaf_row : (id : TypeId) → AmongLeaves BUILT_IN id → LeafRow id.0
leaf_row id (inl e) = subst (λ (z : TypeId). LeafRow z.0) (sym e) leaf2
leaf_row id (inr (inl e)) = subst (λ (z : TypeId). LeafRow z.0) (sym e) leaf3
leaf_row id (inr (inr (inl e))) = subst (λ (z : TypeId). LeafRow z.0) (sym e) leaf4
leaf_row id (inr (inr (inr (inl e)))) = subst (λ (z : TypeId). LeafRow z.0) (sym e) leaf5
leaf_row id (inr (inr (inr (inr e)))) = subst (λ (z : TypeId). LeafRow z.0) (sym e) leaf6

leaf_number : (id : TypeId) → AmongLeaves BUILT_IN id → 2 ≤ id.0
leaf_number id (inl e) = let q : id.0 ≡ 2 = ap (λ (z : TypeId). z.0) e in omega arith
leaf_number id (inr (inl e)) = let q : id.0 ≡ 3 = ap (λ (z : TypeId). z.0) e in omega arith
leaf_number id (inr (inr (inl e))) = let q : id.0 ≡ 4 = ap (λ (z : TypeId). z.0) e in omega arith
leaf_number id (inr (inr (inr (inl e)))) =
    let q : id.0 ≡ 5 = ap (λ (z : TypeId). z.0) e in omega arith
leaf_number id (inr (inr (inr (inr e)))) =
    let q : id.0 ≡ 6 = ap (λ (z : TypeId). z.0) e in omega arith

abbrev AmongFailures : BuiltIn → TypeId → Type 0
AmongFailures b id = (id ≡ b.integer_overflow) ⊎ (id ≡ b.division_by_zero)
    ⊎ (id ≡ b.negative_exponent) ⊎ (id ≡ b.index_out_of_range) ⊎ (id ≡ b.negative_size)
    ⊎ (id ≡ b.depth_exceeded) ⊎ (id ≡ b.try_atomic_failure) ⊎ (id ≡ b.abort_outside)

exception_row : (id : TypeId) → AmongFailures BUILT_IN id → ExceptionRow id.0
exception_row id (inl e) = subst (λ (z : TypeId). ExceptionRow z.0) (sym e) exception7
exception_row id (inr (inl e)) = subst (λ (z : TypeId). ExceptionRow z.0) (sym e) exception8
exception_row id (inr (inr (inl e))) = subst (λ (z : TypeId). ExceptionRow z.0) (sym e) exception9
exception_row id (inr (inr (inr (inl e)))) =
    subst (λ (z : TypeId). ExceptionRow z.0) (sym e) exception10
exception_row id (inr (inr (inr (inr (inl e))))) =
    subst (λ (z : TypeId). ExceptionRow z.0) (sym e) exception11
exception_row id (inr (inr (inr (inr (inr (inl e)))))) =
    subst (λ (z : TypeId). ExceptionRow z.0) (sym e) exception14
exception_row id (inr (inr (inr (inr (inr (inr (inl e))))))) =
    subst (λ (z : TypeId). ExceptionRow z.0) (sym e) exception15
exception_row id (inr (inr (inr (inr (inr (inr (inr e))))))) =
    subst (λ (z : TypeId). ExceptionRow z.0) (sym e) exception16

-- the shape of a row
shape_there : (rows : List BuiltInType) (l k : ℕ) (row : BuiltInType) → slice_get rows k ≡ Some row
    → (b : ℕ) × (slice_get (shapes_of rows l) k ≡ Some (shape_at b row.kind))
shape_there [] l k row e = absurd cc
shape_there (r ∷ rows) l zero row e =
    let same : r ≡ row = cc in (l, ap (λ (z : BuiltInType). Some (shape_at l z.kind)) same)
shape_there (r ∷ rows) l (suc k) row e = shape_there rows (place_behind l r.kind) k row e

from_there : (l k : ℕ) (row : BuiltInType) → slice_get types k ≡ Some row
    → (b : ℕ) × (slice_get (shapes_from l) k ≡ Some (shape_at b row.kind))
unfolding shapes_from
from_there l k row e = shape_there types l k row e

only_item : (x b : ℕ) → Contains (x ∷ []) b → x ≡ b
only_item x b (zero, l, e) = e
only_item x b (suc k, l, e) = absurd (omega arith)

no_trait : a_kind.Leaf ≡ a_kind.Trait → ⊥
no_trait e = absurd cc

module _ (tokens : Tokens) (c : Component) (h : Hierarchy) (m : Members) (groups : Groups)
    (typed : Typed) (p : Program) (ok : Checked tokens c h m groups typed p) where
  within : (n : ℕ) (row : BuiltInType) → slice_get types n ≡ Some row → n < TYPE_COUNT
  within n row e = let l = slice_get_within types n row e in let k = rows_long in omega arith

  -- the shape of a built-in type
  pub shape_is : (n : ℕ) (row : BuiltInType) → slice_get types n ≡ Some row
      → (b : ℕ) × (slice_get p.shapes n ≡ Some (shape_at b row.kind))
  unfolding shapes
  shape_is n row e = let w = from_there (length m.variables) n row e in (
    w.0,
    ap (λ z. slice_get z n) ok.program.shapes
        ∙ get_left (shapes_from (length m.variables))
        (own_shapes c.texts typed.initials m.sets _ _ _ _) n (shape_at w.0 row.kind) w.1,
  )

  -- ---- leaves

  leaf_of : (id : TypeId) → IsBuiltIn p id → LeafRow id.0
  leaf_of id w = leaf_row id (subst (λ b. AmongLeaves b id) ok.program.built_in w)

  pub is_leaf : (id : TypeId) → IsBuiltIn p id → Leaf (declares c) id.0
  is_leaf id w =
      let r = leaf_of id w
      in (
        declared_by_row r.row,
        declared_row c id.0 r.row r.stands,
        λ t. no_trait (sym r.kind_is ∙ t),
      )

  pub only_leaf : (b i : TypeId) → IsBuiltIn p b → Under p i b → i ≡ b
  only_leaf b i w (inl e) = e
  only_leaf b i w (inr set) =
      ap type_number (only_itself c h ok.hierarchy p ok.program.types i.0 b.0 (is_leaf b w) set)

  leaf_unmade : (b : ℕ) (k : _) → k ≡ a_kind.Leaf → Makes (kind_at b k) → ⊥
  leaf_unmade b k e made = subst (λ z. Makes (kind_at b z)) e made

  pub unmade : (b : TypeId) (s : CoreShape) → IsBuiltIn p b → ShapeOf p b s → Makes s.kind → ⊥
  unmade b s w e made =
      let r = leaf_of b w in
      let v = shape_is b.0 r.row r.stands in
      let same : shape_at v.0 r.row.kind ≡ s = one p.shapes b.0 s (shape_at v.0 r.row.kind) e v.1 in
      leaf_unmade v.0 r.row.kind r.kind_is (subst (λ (z : CoreShape). Makes z.kind) (sym same) made)

  no_place : (f : NameId) (s : CoreShape) (n : ℕ) → s.fields ≡ [] → place_of f s.fields ≡ Some n → ⊥
  no_place f s n e q = let z : None ≡ Some n = ap (place_of f) (sym e) ∙ q in absurd cc

  built_in_fieldless : (i : TypeId) (f : NameId) (A : Ty) → i.0 < TYPE_COUNT → (x : FieldOf p i f A)
      → Told c m ok.members c.texts typed.initials i.0 x.shape → ⊥
  built_in_fieldless i f A l x (built_in row b e q) =
      no_place f x.shape x.place (ap (λ (z : CoreShape). z.fields) q) x.is_place
  built_in_fieldless i f A l x (own k q o fs e g w) = absurd (omega (arith, l, q))

  pub fieldless : (b i : TypeId) (f : NameId) (A : Ty) → IsBuiltIn p b → Under p b i
      → FieldOf p i f A → ⊥
  fieldless b i f A w under x =
      let r = leaf_of b w in
      built_in_fieldless i f A (at under) x
      (told_at tokens c h m groups typed p ok i.0 x.shape x.is_shape)
    where
      at : Under p b i → i.0 < TYPE_COUNT
      at (inl e) =
          let r = leaf_of b w
          in subst (λ (z : TypeId). z.0 < TYPE_COUNT) e (within b.0 r.row r.stands)
      at (inr set) =
          let r = leaf_of b w
          in stays c b.0 i.0 (path c h ok.hierarchy p ok.program.types b.0 i.0 set)
          (within b.0 r.row r.stands)

  -- above `Object` there is nothing, and above a leaf only `Object`
  from_object : (a b : ℕ) → Path (declares c) a b → a ≡ 0 → b ≡ 0
  from_object a b stop e = e
  from_object a b (along {b = x} s q) e = absurd
      (let l : a < TYPE_COUNT = omega arith
      in let u = (plain_at a s.0 (built_in_at c a s.0 l s.1)).upwards x s.2 in omega arith)

  from_leaf : (a b : ℕ) → LeafRow a → Path (declares c) a b → (b ≡ a) ⊎ (b ≡ 0)
  from_leaf a b r stop = inl refl
  from_leaf a b r (along {b = x} s q) =
      let same : s.0 ≡ declared_by_row r.row =
      one (declares c) a (declared_by_row r.row) s.0 (declared_row c a r.row r.stands) s.1 in
      let above : Contains (above_of r.row.extends) x =
      subst (λ (z : DeclaredType). Contains z.extends x) same s.2 in
      inr (from_object x b q
      (sym (only_item 0 x (subst (λ z. Contains (above_of z) x) r.extends_is above))))

  -- so no leaf is below `Exception`
  pub unthrown : (b : TypeId) → IsBuiltIn p b → Under p b p.built_in.exception → ⊥
  unthrown b w under =
      no (leaf_number b (subst (λ z. AmongLeaves z b) ok.program.built_in w)) (by under)
    where
      exception : p.built_in.exception.0 ≡ 1
      exception = ap (λ (z : BuiltIn). z.exception.0) ok.program.built_in

      by : Under p b p.built_in.exception
          → (p.built_in.exception.0 ≡ b.0) ⊎ (p.built_in.exception.0 ≡ 0)
      by (inl e) = inl (ap (λ (z : TypeId). z.0) (sym e))
      by (inr set) =
          from_leaf b.0 p.built_in.exception.0 (leaf_of b w)
          (path c h ok.hierarchy p ok.program.types b.0 p.built_in.exception.0 set)

      no : 2 ≤ b.0 → (p.built_in.exception.0 ≡ b.0) ⊎ (p.built_in.exception.0 ≡ 0) → ⊥
      no l (inl e) = absurd (let n = exception in omega arith)
      no l (inr e) = absurd (let n = exception in omega arith)

  -- ---- exceptions

  single_kind : (b : ℕ) (k : _) → k ≡ a_kind.Object → kind_at b k ≡ kind.Single (location b)
  single_kind b k e = ap (kind_at b) e

  pub exception_single : (id : TypeId) → ExceptionRow id.0
      → (l : Loc) × (s : CoreShape) × ShapeOf p id s × (s.kind ≡ kind.Single l)
  exception_single id r =
      let v = shape_is id.0 r.row r.stands
      in (location v.0, shape_at v.0 r.row.kind, v.1, single_kind v.0 r.row.kind r.kind_is)

  below_exception : (id : TypeId) → ExceptionRow id.0 → Below p (Named id) (Named EXCEPTION)
  below_exception id r =
      let at = declared_row c id.0 r.row r.stands in
      let l = slice_get_within (declares c) id.0 (declared_by_row r.row) at in
      let n = counted c in
      let extends : Contains (declared_by_row r.row).extends 1 =
      subst (λ z. Contains (above_of z) 1) (sym r.extends_is) (0, omega arith, refl) in
      below c h ok.hierarchy p ok.program.types (Named id) (Named EXCEPTION)
      (named_numbered (length (declares c)) id l)
      (named (outs-Named id) (outs-Named EXCEPTION)
      (along (declared_by_row r.row, at, extends, omega arith) stop))

  -- a single object that is an exception is thrown
  pub exception_has : (id : TypeId) → ExceptionRow id.0 → (s : CoreShape) (l : Loc) → ShapeOf p id s
      → s.kind ≡ kind.Single l → HasV p (opening p) (ObjectValue id l) (Named EXCEPTION)
  exception_has id r s l e k =
      sub_v p (opening p)
      (λ X Y Z u w. transitive p
      (through p.types.below (rows_through c h ok.hierarchy p ok.program.types)) u w)
      (single_has tokens c h m groups typed p ok id s l e k) (below_exception id r)

  failure_row : (id : TypeId) → IsFailure p id → ExceptionRow id.0
  failure_row id w = exception_row id (subst (λ b. AmongFailures b id) ok.program.built_in w)

  single_is : (id : TypeId) (s : CoreShape) (l : Loc) → ShapeOf p id s → s.kind ≡ kind.Single l
      → single p id ≡ Some (ObjectValue id l)
  single_is id s l e k =
      ap (option_and_then (object_of id)) e
      ∙ ap (λ z. object_of id (record { kind = z; fields = s.fields })) k

  pub failure_single : (id : TypeId) → IsFailure p id → (v : Value) × (single p id ≡ Some v)
  failure_single id w =
      let x = exception_single id (failure_row id w)
      in (ObjectValue id x.0, single_is id x.1 x.0 x.2 x.3)

  pub failure_has : (id : TypeId) (v : Value) → IsFailure p id → single p id ≡ Some v
      → HasV p (opening p) v (thrown_type p)
  failure_has id v w e =
      let r = failure_row id w in
      let x = exception_single id r in
      let z : Some (ObjectValue id x.0) ≡ Some v = sym (single_is id x.1 x.0 x.2 x.3) ∙ e in
      let same : ObjectValue id x.0 ≡ v = cc in
      subst (λ T. HasV p (opening p) v T) (ap (λ
      (b : BuiltIn). Named b.exception) (sym ok.program.built_in))
      (subst (λ u. HasV p (opening p) u (Named EXCEPTION)) same
      (exception_has id r x.1 x.0 x.2 x.3))
