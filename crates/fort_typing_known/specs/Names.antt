-- The chapter "Typing", names: what a name in an expression stands for, and which names can't be
-- bound. The code keeps it by the names' numbers.
use Rattle.std.specs.Prelude.{ℕ, suc, nat_eq, nat_le, Bool, true, false, cond, not, ◌&&◌, ◌||◌, List, [], ◌∷◌, Option, Some, None, codes, slice_get}
use Rattle.std.specs.Str.{bytes_eq}
use Rattle.fort_base.specs.declared.ids.NameId.{NameId}
use Rattle.fort_base.specs.declared.ids.TypeId.{TypeId}
use Rattle.fort_base.specs.declared.ty.Ty.{Ty}
use Rattle.fort_base.specs.declared.ty.Ty.TheOpen.{Ty-F}
use Rattle.fort_types_builtin.specs.declared.types.TheConstants.{ZZ32, RANGE}
use Rattle.fort_types_builtin.specs.Types.{any_spelling}
use Rattle.fort_typing_known.specs.Spellings.{Spelling}
use Rattle.fort_types_sets.specs.declared.field.Field.{Field}
use Rattle.fort_types_sets.specs.declared.member.Member.{Member}
use Rattle.fort_types_sets.specs.declared.member.MemberSet.{MemberSet}
use Rattle.fort_scope.specs.declared.binding.Binding.{Binding}
use Rattle.fort_typing_known.specs.Known.{Facts}
use Rattle.fort_typing_known.specs.Sets.{spelled, has_name, any_set, is_function}

-- ---- what there is of a name

-- the binding of a name
abbrev pub bound : List Binding → NameId → Option Binding
bound [] name = None
bound (b ∷ bs) name = cond (nat_eq b.name.0 name.0) (Some b) (bound bs name)

-- the field, or the variable at the top, of a name
abbrev pub field_in : List Field → NameId → Option Field
field_in [] name = None
field_in (f ∷ fs) name = cond (nat_eq f.name.0 name.0) (Some f) (field_in fs name)

-- the number of the variable of a name
abbrev pub number_in : List Field → NameId → ℕ
number_in [] name = 0
number_in (f ∷ fs) name = cond (nat_eq f.name.0 name.0) 0 (suc (number_in fs name))

abbrev pub field_among : Option (List Field) → NameId → Option Field
field_among (Some fs) name = field_in fs name
field_among None name = None

-- the field of a name that a declared type has
abbrev pub field_of : Facts → TypeId → NameId → Option Field
field_of k t name = field_among (slice_get k.members.fields t.0) name

-- the field of a name that a type has: declared types alone have fields
abbrev pub field_at : Facts → Ty-F Ty → NameId → Option Field
field_at k (Ty-F.Named t) name = field_of k t name
field_at k _ name = None

-- the field of a name that the enclosing type has
abbrev pub field_within : Facts → Option TypeId → NameId → Option Field
field_within k (Some t) name = field_of k t name
field_within k None name = None

abbrev pub own_field : Facts → NameId → Option Field
own_field k name = field_within k k.owner name

-- the variable at the top of a name
abbrev pub variable : Facts → NameId → Option Field
variable k name = field_in k.members.variables name

-- the number of a built-in leaf: ZZ32, ZZ64, String, Boolean, Range
abbrev pub is_leaf_number : ℕ → Bool
is_leaf_number n = nat_le ZZ32.0 n && nat_le n RANGE.0

-- the number of the type that is spelled so, where these are the types' names; past the last one
-- where none is
abbrev pub type_number : List Spelling → Spelling → ℕ
type_number [] s = 0
type_number (t ∷ ts) s = cond (bytes_eq t s) 0 (suc (type_number ts s))

abbrev pub is_so : Option Bool → Bool
is_so (Some b) = b
is_so None = false

-- an object: of the objects and leaves one that is no leaf
abbrev pub is_object : Facts → ℕ → Bool
is_object k n = is_so (slice_get k.members.objects n) && not (is_leaf_number n)

abbrev pub object_of : Facts → ℕ → Option TypeId
object_of k n = cond (is_object k n) (Some (record { 0 = n })) None

-- The single object of a name: an object of which there is no constructor.
abbrev pub single : Facts → NameId → Option TypeId
single k name = cond (is_function k name) None (object_of k (type_number k.types (spelled k name)))

-- ---- what a name stands for

-- What a name stands for: a binding, a field of the enclosing type, a variable at the top with its
-- number, a single object, a function set, or nothing.
pub data Standing : Type 0 where
  a_binding : Binding → Standing
  a_field : TypeId → Field → Standing
  a_variable : ℕ → Field → Standing
  a_single : TypeId → Standing
  functions : Standing
  nothing : Standing

abbrev pub standing_single : Facts → NameId → Option TypeId → Standing
standing_single k name (Some t) = a_single t
standing_single k name None = cond (is_function k name) functions nothing

abbrev pub standing_top : Facts → NameId → Option Field → Standing
standing_top k name (Some v) = a_variable (number_in k.members.variables name) v
standing_top k name None = standing_single k name (single k name)

abbrev pub standing_field : Facts → NameId → TypeId → Option Field → Standing
standing_field k name t (Some f) = a_field t f
standing_field k name t None = standing_top k name (variable k name)

abbrev pub standing_within : Facts → NameId → Option TypeId → Standing
standing_within k name (Some t) = standing_field k name t (field_of k t name)
standing_within k name None = standing_top k name (variable k name)

abbrev pub standing_bound : Facts → NameId → Option Binding → Standing
standing_bound k name (Some b) = a_binding b
standing_bound k name None = standing_within k name k.owner

-- A name stands for the first of these that there is.
unfoldable pub standing : Facts → List Binding → NameId → Standing
standing k bs name = standing_bound k name (bound bs name)

-- ---- which names are visible

abbrev pub is_some_binding : Option Binding → Bool
is_some_binding (Some b) = true
is_some_binding None = false

abbrev pub is_some_field : Option Field → Bool
is_some_field (Some f) = true
is_some_field None = false

-- some type is spelled so
abbrev pub is_type : List Spelling → Spelling → Bool
is_type [] s = bytes_eq any_spelling s
is_type (t ∷ ts) s = bytes_eq t s || is_type ts s

-- the component declares a declaration of a set: it has a place
abbrev pub any_declared : List Member → Bool
any_declared [] = false
any_declared (m ∷ ms) = cond (elim m.place [ Some p ↦ true | None ↦ false ]) true (any_declared ms)

-- a set of functions of this name can be seen: the built-in operator of juxtaposition can't
abbrev pub shows : Spelling → MemberSet → Bool
shows s set =
    has_name s false set && (not (bytes_eq (codes "juxtaposition") s) || any_declared set.members)

-- A name is visible, so that it can't be bound: as a binding, a field of the enclosing type, or a
-- name at the top.
unfoldable pub is_visible : Facts → List Binding → NameId → Bool
is_visible k bs name =
    is_some_binding (bound bs name) || is_some_field (own_field k name)
    || is_some_field (variable k name)
    || is_type k.types (spelled k name) || any_set (shows (spelled k name)) k.members.sets
