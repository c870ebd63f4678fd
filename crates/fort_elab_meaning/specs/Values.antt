-- "Values" of docs/TRANSLATION.md: constants, single objects, neutral values.
use Rattle.std.specs.Prelude.{ℕ, nat_le, nat_eq, Bool, true, false, cond, ℤ, pos, ◌-ℤ◌, List, [], ◌∷◌, Option, Some, None, get_or, slice_get}
use Rattle.fort_base.specs.declared.ids.Loc.{Loc}
use Rattle.fort_base.specs.declared.ids.TypeId.{TypeId}
use Rattle.fort_base.specs.declared.ty.Ty.{Ty, out-Ty}
use Rattle.fort_base.specs.declared.ty.Ty.TheOpen.{Ty-F}
use Rattle.fort_form.specs.declared.form.Reduction.{Reduction}
use Rattle.fort_form.specs.declared.form.Reduction.TheVariants as a_reduction
use Rattle.fort_form_typed.specs.declared.typed_form.TypedForm.{TypedForm, out-TypedForm}
use Rattle.fort_form_typed.specs.declared.typed_form.TypedForm.TheOpen.{TypedForm-F}
use Rattle.fort_types_builtin.specs.declared.types.TheConstants.{ZZ64, EMPTY_REDUCTION, MATCH_FAILURE}
use Rattle.fort_types_builtin.specs.Objects.{location}
use Rattle.fort_core.specs.declared.program.CoreKind.{CoreKind}
use Rattle.fort_core.specs.declared.program.CoreKind.TheVariants as kind
use Rattle.fort_core.specs.declared.program.CoreShape.{CoreShape}
use Rattle.fort_core.specs.declared.term.Term.{Term}
use Rattle.fort_core.specs.declared.term.Term as term
use Rattle.fort_core.specs.declared.value.Value.{Value, Small, Large, Truth, Text, Object}
use Rattle.fort_machine.specs.Acts.{unit}
use Rattle.fort_machine.specs.Ends.{throw_of}
use Rattle.fort_elab_meaning.specs.Parts.{Given}

-- The term `()`.
abbrev pub unit_term : Term
unit_term = term.Value unit

-- A number is a ZZ32 up to 2147483647, else a ZZ64; this is it or, with its sign, its negative.
abbrev pub number : ℕ → ℤ → Value
number n z = cond (nat_le n 2147483647) (Small z) (Large z)

-- The text of a number.
abbrev pub text : List (List ℕ) → ℕ → Value
text texts n = Text (get_or texts n [])

-- `-` before a number.
abbrev pub negative_at : TypedForm-F TypedForm → Value
negative_at (TypedForm-F.Number ty n) = number n (pos 0 -ℤ pos n)
negative_at _ = unit

abbrev pub negative_of : List TypedForm → Value
negative_of (t ∷ []) = negative_at (out-TypedForm t)
negative_of _ = unit

abbrev pub constant_at : List (List ℕ) → TypedForm-F TypedForm → Value
constant_at texts (TypedForm-F.Number ty n) = number n (pos n)
constant_at texts (TypedForm-F.Text ty n) = text texts n
constant_at texts (TypedForm-F.Truth ty b) = Truth b
constant_at texts (TypedForm-F.Operation ty set operands) = negative_of operands
constant_at texts _ = unit

-- The value of an initial, which is a constant: a number, `-` before a number, a text, a truth
-- value, or `()`.
abbrev pub constant : List (List ℕ) → TypedForm → Value
constant texts t = constant_at texts (out-TypedForm t)

-- ---- single objects

abbrev pub base_of_kind : CoreKind → Loc
base_of_kind (kind.Single l) = l
base_of_kind _ = location 0

abbrev pub base_of : Option CoreShape → Loc
base_of (Some s) = base_of_kind s.kind
base_of None = location 0

-- The single object of a type: it stands at its base.
abbrev pub single : Given → TypeId → Value
single g t = Object t (base_of (slice_get g.shapes t.0))

-- The throws of built-in exceptions: where no clause matches, and of a reduction over no item.
abbrev pub no_match : Given → Term
no_match g = throw_of (single g MATCH_FAILURE)

abbrev pub no_item : Given → Term
no_item g = throw_of (single g EMPTY_REDUCTION)

-- ---- reductions

abbrev pub is_large_at : Ty-F Ty → Bool
is_large_at (Ty-F.Named t) = nat_eq t.0 ZZ64.0
is_large_at _ = false

-- A number as a ZZ64 where that is the type, else as a ZZ32.
abbrev pub number_as : Ty → ℕ → Term
number_as ty n = term.Value (cond (is_large_at (out-Ty ty)) (Large (pos n)) (Small (pos n)))

-- What a reduction gives over no item: the neutral value of its operator, of the body's type, or a
-- throw where there is none.
abbrev pub neutral : Given → Reduction → Ty → Term
neutral g a_reduction.Sum ty = number_as ty 0
neutral g a_reduction.Product ty = number_as ty 1
neutral g a_reduction.Maximum ty = no_item g
neutral g a_reduction.Minimum ty = no_item g
neutral g a_reduction.Conjunction ty = term.Value (Truth true)
neutral g a_reduction.Disjunction ty = term.Value (Truth false)
