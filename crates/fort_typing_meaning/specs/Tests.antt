-- The chapter "Typing": what is wanted of a part, as a test that is computed.
use Rattle.std.specs.Prelude.{ℕ, suc, nat_eq, Bool, true, false, cond, not, ◌&&◌, ◌||◌, List, [], ◌∷◌, ◌++◌, Option, Some, None}
use Rattle.fort_base.specs.declared.ids.TypeId.{TypeId}
use Rattle.fort_base.specs.declared.refusal.Place.{Place}
use Rattle.fort_base.specs.declared.refusal.Rule.{Rule}
use Rattle.fort_base.specs.declared.rules.TheConstants.{MISMATCH, FUNCTION_AS_VALUE, NOT_AN_EXCEPTION}
use Rattle.fort_base.specs.declared.ty.Ty.{Ty, out-Ty}
use Rattle.fort_base.specs.declared.ty.Ty.TheOpen.{Ty-F}
use Rattle.fort_form_typed.specs.declared.typed_form.TypedForm.{TypedForm}
use Rattle.fort_typing_known.specs.declared.fault.Fault.{Fault}
use Rattle.fort_typing_known.specs.Known.{Facts}
use Rattle.fort_typing_known.specs.Below.{is_below}
use Rattle.fort_typing_rules.specs.declared.part.Meaning.{Meaning}
use Rattle.fort_typing_rules.specs.declared.part.Meaning.TheVariants as a_meaning
use Rattle.fort_typing_rules.specs.Types.{exception, zz32, unit, is_nothing, type_of}
use Rattle.fort_typing_meaning.specs.declared.frame.Want.{Want}
use Rattle.fort_typing_meaning.specs.declared.frame.Want.TheVariants as a_want
use Rattle.fort_typing_meaning.specs.declared.frame.Outcome.{Outcome}
use Rattle.fort_typing_meaning.specs.declared.frame.Valued.{Valued}
use Rattle.fort_typing_meaning.specs.Faults.{breaks}

-- ---- types

abbrev pub is_number_at : Ty-F Ty → ℕ → Bool
is_number_at (Ty-F.Named t) n = nat_eq t.0 n
is_number_at _ n = false

-- a type is the declared type of this number
abbrev pub is_declared : Ty → ℕ → Bool
is_declared t n = is_number_at (out-Ty t) n

-- a type is as wanted
unfoldable pub suits : Facts → Want → Ty → Bool
suits k a_want.Value t = true
suits k a_want.Operand t = not (is_nothing t)
suits k (a_want.Below want) t = is_below k t want.now
suits k a_want.Unit t = is_below k t unit
suits k a_want.Small t = is_below k t zz32
suits k a_want.Truth t = is_declared t 5
suits k a_want.Number t = is_declared t 2 || is_declared t 3
suits k a_want.Exception t = is_below k t exception

abbrev pub rule_of : Want → Rule
rule_of a_want.Exception = NOT_AN_EXCEPTION
rule_of _ = MISMATCH

-- the first of some types that all are below
abbrev pub all_below : Facts → List Ty → Ty → Bool
all_below k [] t = true
all_below k (x ∷ xs) t = cond (is_below k x t) (all_below k xs t) false

abbrev pub first_widest : Facts → List Ty → List Ty → Option Ty
first_widest k all [] = None
first_widest k all (t ∷ ts) = cond (all_below k all t) (Some t) (first_widest k all ts)

-- the widest type of several
unfoldable pub widest : Facts → List Ty → Option Ty
widest k types = first_widest k types types

-- ---- outcomes

-- no type, and no new broken rule
abbrev pub untyped : Option Fault → Outcome
untyped found = record { seen = a_meaning.Unknown; found = found }

abbrev pub value : TypedForm → Option Fault → Outcome
value t found = record { seen = a_meaning.Value t; found = found }

abbrev pub refused : Rule → Place → Option Fault → Outcome
refused rule place found = record { seen = a_meaning.Unknown; found = breaks rule place found }

-- ---- parts

abbrev pub no_node : Option Fault → Valued
no_node found = record { node = None; found = found }

-- a value is wanted: a function set's name breaks 606
unfoldable pub valued : Place → Meaning → Option Fault → Valued
valued place (a_meaning.Value t) found = record { node = Some t; found = found }
valued place (a_meaning.Functions name) found = no_node (breaks FUNCTION_AS_VALUE place found)
valued place _ found = no_node found

abbrev pub as_wanted : Facts → Want → Place → Option TypedForm → Option Fault → Valued
as_wanted k want place None found = no_node found
as_wanted k want place (Some t) found =
    cond (suits k want (type_of t)) (record { node = Some t; found = found })
    (no_node (breaks (rule_of want) place found))

-- a part as wanted
unfoldable pub taken : Facts → Want → Place → Meaning → Option Fault → Valued
taken k want place seen found =
    let v = valued place seen found in as_wanted k want place v.node v.found
