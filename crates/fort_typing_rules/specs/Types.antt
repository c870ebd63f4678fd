-- The chapter "Typing": built-in types, the type of a typed form, and the place of a form.
use Rattle.std.specs.Prelude.{◌≡◌, ◌≤◌, ℕ, nat_le, Bool, true, false, cond, ◌&&◌, List, [], ◌∷◌, Option, Some, None, map, slice_get}
use Rattle.fort_base.specs.declared.refusal.Place.{Place}
use Rattle.fort_base.specs.declared.refusal.Rule.{Rule}
use Rattle.fort_base.specs.declared.ty.Ty.{Ty, out-Ty}
use Rattle.fort_base.specs.declared.ty.Ty.TheVariants as a_type
use Rattle.fort_base.specs.declared.ty.Ty.TheOpen.{Ty-F}
use Rattle.fort_types.specs.Types.{Below}
use Rattle.fort_types_builtin.specs.declared.types.TheConstants.{EXCEPTION, ZZ32, ZZ64, STRING, BOOLEAN, RANGE}
use Rattle.fort_form.specs.declared.form.Form.{Form, out-Form}
use Rattle.fort_form.specs.declared.form.Form.TheOpen.{Form-F}
use Rattle.fort_form.specs.declared.form.Parameter.{Parameter}
use Rattle.fort_form_typed.specs.declared.typed_form.TypedForm.{TypedForm, out-TypedForm}
use Rattle.fort_form_typed.specs.declared.typed_form.TypedForm.TheOpen.{TypedForm-F}
use Rattle.fort_typing_known.specs.declared.fault.Fault.{Fault}
use Rattle.fort_typing_known.specs.Known.{Knows}

-- ---- built-in types

abbrev pub exception : Ty
exception = a_type.Named EXCEPTION

abbrev pub zz32 : Ty
zz32 = a_type.Named ZZ32

abbrev pub zz64 : Ty
zz64 = a_type.Named ZZ64

abbrev pub string : Ty
string = a_type.Named STRING

abbrev pub boolean : Ty
boolean = a_type.Named BOOLEAN

-- the type of `()`
abbrev pub unit : Ty
unit = a_type.Tuple []

-- the type of a number
abbrev pub number_type : ℕ → Ty
number_type n = cond (nat_le n 2147483647) zz32 zz64

-- one type is below another
abbrev pub IsBelow : Knows → Ty → Ty → Type 0
IsBelow k a b = Below k.declared a b

abbrev pub nothing_at : Ty-F Ty → Bool
nothing_at Ty-F.Nothing = true
nothing_at _ = false

-- it is the type `Nothing`
abbrev pub is_nothing : Ty → Bool
is_nothing t = nothing_at (out-Ty t)

-- it is the type of arrays
abbrev pub array_at : Ty-F Ty → Bool
array_at (Ty-F.Array e) = true
array_at _ = false

-- the values that a generator gives whose source has this type, if it is one
abbrev pub given_at : Ty-F Ty → Option Ty
given_at (Ty-F.Named t) = cond (nat_le t.0 RANGE.0 && nat_le RANGE.0 t.0) (Some zz32) None
given_at (Ty-F.Array e) = Some e
given_at _ = None

abbrev pub given : Ty → Option Ty
given t = given_at (out-Ty t)

-- All types of a list are below this one.
abbrev pub AreAllBelow : Knows → List Ty → Ty → Type 0
AreAllBelow k types t = (j : ℕ) (x : Ty) → slice_get types j ≡ Some x → IsBelow k x t

-- The widest type of several: the first of them that all are below.
pub record IsWidest (k : Knows) (types : List Ty) (t : Ty) : Type 0 where
  pub at : ℕ
  pub is : slice_get types at ≡ Some t
  pub over : AreAllBelow k types t
  pub first : (j : ℕ) (x : Ty) → slice_get types j ≡ Some x → AreAllBelow k types x → at ≤ j

-- Several types have no widest one.
abbrev pub HasNoWidest : Knows → List Ty → Type 0
HasNoWidest k types = (j : ℕ) (x : Ty) → slice_get types j ≡ Some x → AreAllBelow k types x → ⊥

-- one type, or the tuple of several
abbrev pub tuple_of : List Ty → Ty
tuple_of (t ∷ []) = t
tuple_of ts = a_type.Tuple ts

abbrev pub parameter_type : Parameter → Ty
parameter_type p = p.ty

-- ---- typed forms

abbrev pub type_at : TypedForm-F TypedForm → Ty
type_at (TypedForm-F.Number ty a) = ty
type_at (TypedForm-F.Text ty a) = ty
type_at (TypedForm-F.Truth ty a) = ty
type_at (TypedForm-F.Tuple ty a) = ty
type_at (TypedForm-F.Local ty a b) = ty
type_at (TypedForm-F.Top ty a) = ty
type_at (TypedForm-F.Single ty a) = ty
type_at (TypedForm-F.Receiver ty) = ty
type_at (TypedForm-F.ReadField ty a b) = ty
type_at (TypedForm-F.ReadElement ty a b) = ty
type_at (TypedForm-F.Size ty a) = ty
type_at (TypedForm-F.Fill ty a b c) = ty
type_at (TypedForm-F.Call ty a b) = ty
type_at (TypedForm-F.Operation ty a b) = ty
type_at (TypedForm-F.Chain ty a b c) = ty
type_at (TypedForm-F.Apply ty a b) = ty
type_at (TypedForm-F.Fn ty a b) = ty
type_at (TypedForm-F.Block ty a) = ty
type_at (TypedForm-F.Bind ty a b c d) = ty
type_at (TypedForm-F.Binds ty a b) = ty
type_at (TypedForm-F.Also ty a) = ty
type_at (TypedForm-F.If ty a b c) = ty
type_at (TypedForm-F.While ty a b) = ty
type_at (TypedForm-F.For ty a b c) = ty
type_at (TypedForm-F.Case ty a b c d e) = ty
type_at (TypedForm-F.Typecase ty a b c d e) = ty
type_at (TypedForm-F.Try ty a b c d e) = ty
type_at (TypedForm-F.Atomic ty a) = ty
type_at (TypedForm-F.Tryatomic ty a) = ty
type_at (TypedForm-F.Throw ty a) = ty
type_at (TypedForm-F.Reduce ty a b c d e f) = ty
type_at (TypedForm-F.Assign ty a b) = ty
type_at (TypedForm-F.Update ty a b c) = ty

-- the type of a typed form
unfoldable pub type_of : TypedForm → Ty
type_of t = type_at (out-TypedForm t)

abbrev pub types_of : List TypedForm → List Ty
types_of ts = map type_of ts

-- ---- forms

abbrev pub place_at : {A B C D E : Type 0} → Form-F A B C D E → Place
place_at (Form-F.Number p a) = p
place_at (Form-F.Text p a) = p
place_at (Form-F.Truth p a) = p
place_at (Form-F.Receiver p) = p
place_at (Form-F.Name p a) = p
place_at (Form-F.Parens p a) = p
place_at (Form-F.Tuple p a) = p
place_at (Form-F.Operator p a b) = p
place_at (Form-F.Chain p a b) = p
place_at (Form-F.Beside p a) = p
place_at (Form-F.Run p a) = p
place_at (Form-F.Subscript p a) = p
place_at (Form-F.Power p a) = p
place_at (Form-F.Field p a b) = p
place_at (Form-F.Method p a b c) = p
place_at (Form-F.Fill p a b c) = p
place_at (Form-F.Block p a) = p
place_at (Form-F.Do p a) = p
place_at (Form-F.If p a b) = p
place_at (Form-F.While p a b) = p
place_at (Form-F.For p a b) = p
place_at (Form-F.Case p a b c) = p
place_at (Form-F.Typecase p a b c d e) = p
place_at (Form-F.Try p a b c d) = p
place_at (Form-F.Atomic p a) = p
place_at (Form-F.Tryatomic p a) = p
place_at (Form-F.Throw p a) = p
place_at (Form-F.Fn p a b) = p
place_at (Form-F.Reduce p a b c) = p
place_at (Form-F.Assign p a b c) = p

-- the place of a form, that of its first token
unfoldable pub place_of : Form → Place
place_of e = place_at (out-Form e)

-- a rule broken at a place
abbrev pub fault : Rule → Place → Fault
fault rule place = record { rule = rule; place = place }
