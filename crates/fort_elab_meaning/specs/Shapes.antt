-- "Programs" of docs/TRANSLATION.md: what the declared types are made of, and the opening store.
-- The code goes over the types once.
use Rattle.std.specs.Prelude.{ℕ, ◌+◌, nat_eq, nat_le, max, Bool, true, false, cond, ◌&&◌, ◌||◌, List, [], ◌∷◌, ◌++◌, length, drop, map, Option, Some, None, unwrap_or}
use Rattle.std.specs.List.{flat_map, list_any}
use Rattle.fort_base.specs.declared.ids.Loc.{Loc}
use Rattle.fort_base.specs.declared.ids.NameId.{NameId}
use Rattle.fort_base.specs.declared.ids.TypeId.{TypeId}
use Rattle.fort_base.specs.declared.ty.Ty.{Ty, Tuple}
use Rattle.fort_types_builtin.specs.declared.types.TheConstants.{TYPE_COUNT}
use Rattle.fort_types_builtin.specs.declared.objects.TheConstants.{OBJECT_COUNT}
use Rattle.fort_types_builtin.specs.Objects.{location, shapes_from}
use Rattle.fort_core.specs.declared.program.CoreField.{CoreField}
use Rattle.fort_core.specs.declared.program.CoreKind.{CoreKind}
use Rattle.fort_core.specs.declared.program.CoreKind.TheVariants as kind
use Rattle.fort_core.specs.declared.program.CoreShape.{CoreShape}
use Rattle.fort_core.specs.declared.value.Value.{Value}
use Rattle.fort_machine.specs.Acts.{unit}
use Rattle.fort_types_sets.specs.declared.field.Field.{Field}
use Rattle.fort_types_sets.specs.declared.member.Member.{Member}
use Rattle.fort_types_sets.specs.declared.member.MemberKind.{MemberKind}
use Rattle.fort_types_sets.specs.declared.member.MemberKind.TheVariants as a_kind
use Rattle.fort_types_sets.specs.declared.member.MemberSet.{MemberSet}
use Rattle.fort_types_sets.specs.declared.member.Members.{Members}
use Rattle.fort_form_typed.specs.declared.typed_form.TypedForm.{TypedForm}
use Rattle.fort_elab_meaning.specs.Values.{constant}

-- ---- initials

-- A variable at the top or a field has an initial: whose field it is, its name, its type, and the
-- constant.
abbrev pub Initial : Type 0
Initial = Option TypeId × NameId × Ty × TypedForm

abbrev pub same_owner : Option TypeId → Option TypeId → Bool
same_owner None None = true
same_owner (Some t) (Some u) = nat_eq t.0 u.0
same_owner _ _ = false

-- The value of the initial of a name, of a type's field or at the top; parameters and fields of
-- traits have none.
abbrev pub initial : List (List ℕ) → List Initial → Option TypeId → NameId → Option Value
initial texts [] owner name = None
initial texts (i ∷ is) owner name =
    cond (same_owner i.0 owner
    && nat_eq i.1.0 name.0) (Some (constant texts i.3)) (initial texts is owner name)

-- ---- shapes

abbrev pub constructs_by : MemberKind → TypeId → Bool
constructs_by (a_kind.Constructor u) t = nat_eq u.0 t.0
constructs_by _ t = false

-- Some declaration is the constructor of an object.
abbrev pub has_constructor : List MemberSet → TypeId → Bool
has_constructor sets t =
    list_any (λ (s : MemberSet). list_any (λ (d : Member). constructs_by d.kind t) s.members) sets

-- A type of the component: a trait; an object with a constructor; or a single object, at this
-- location.
abbrev pub kind_of : List MemberSet → TypeId → ℕ → Bool → CoreKind
kind_of sets t l false = kind.Trait
kind_of sets t l true = cond (has_constructor sets t) kind.Object (kind.Single (location l))

-- A field of a type, with its constant where it has one.
abbrev pub core_field : List (List ℕ) → List Initial → TypeId → Field → CoreField
core_field texts is t f =
    record {
      name = f.name;
      ty = f.ty;
      mutable = f.mutable;
      initial = initial texts is (Some t) f.name;
    }

-- A single object has a location for each field, and one where it has none; another type has none.
abbrev pub places_of : CoreKind → ℕ → ℕ
places_of (kind.Single l) n = max n 1
places_of _ n = 0

abbrev pub shape_of : List (List ℕ) → List Initial → List MemberSet → TypeId → ℕ → Bool → List Field
    → CoreShape
shape_of texts is sets t l object fs =
    record { kind = kind_of sets t l object; fields = map (core_field texts is t) fs }

-- The types of a component from a number on: single objects have the locations from this one on, in
-- the order of their types.
abbrev pub own_shapes : List (List ℕ) → List Initial → List MemberSet → ℕ → ℕ → List Bool
    → List (List Field) → List CoreShape
own_shapes texts is sets t l (o ∷ os) (fs ∷ fss) =
    let s = shape_of texts is sets (record { 0 = t }) l o fs in
    s ∷ own_shapes texts is sets (t + 1) (l + places_of s.kind (length fs)) os fss
own_shapes texts is sets t l _ _ = []

-- What the declared types are made of: the variables at the top have the first locations, then come
-- the built-in single objects, then the component's.
unfoldable pub shapes : List (List ℕ) → List Initial → Members → List CoreShape
shapes texts is m = let v = length m.variables in
    shapes_from v
    ++ own_shapes texts is m.sets TYPE_COUNT (v + OBJECT_COUNT) (drop TYPE_COUNT m.objects)
    (drop TYPE_COUNT m.fields)

-- ---- the opening store

-- Variables at the top have the locations from this one on, in source order, with their constants.
abbrev pub variables_from : List (List ℕ) → List Initial → ℕ → List Field → List (Loc × Value)
variables_from texts is l [] = []
variables_from texts is l (f ∷ fs) =
    (location l, unwrap_or (initial texts is None f.name) unit) ∷ variables_from texts is (l + 1) fs

abbrev pub variable_types : ℕ → List Field → List (Loc × Ty)
variable_types l [] = []
variable_types l (f ∷ fs) = (location l, f.ty) ∷ variable_types (l + 1) fs

-- The locations of a single object from its base on hold the constants of its fields, in their
-- order.
abbrev pub fields_from : ℕ → List CoreField → List (Loc × Value)
fields_from l [] = []
fields_from l (f ∷ fs) = (location l, unwrap_or f.initial unit) ∷ fields_from (l + 1) fs

abbrev pub field_types : ℕ → List CoreField → List (Loc × Ty)
field_types l [] = []
field_types l (f ∷ fs) = (location l, f.ty) ∷ field_types (l + 1) fs

-- Without fields it has one location, which holds `()`.
abbrev pub held_at : CoreKind → List CoreField → List (Loc × Value)
held_at (kind.Single l) [] = (l, unit) ∷ []
held_at (kind.Single l) (f ∷ fs) = fields_from l.0 (f ∷ fs)
held_at _ fs = []

abbrev pub types_at : CoreKind → List CoreField → List (Loc × Ty)
types_at (kind.Single l) [] = (l, Tuple []) ∷ []
types_at (kind.Single l) (f ∷ fs) = field_types l.0 (f ∷ fs)
types_at _ fs = []

abbrev pub held_by : CoreShape → List (Loc × Value)
held_by s = held_at s.kind s.fields

abbrev pub types_by : CoreShape → List (Loc × Ty)
types_by s = types_at s.kind s.fields
