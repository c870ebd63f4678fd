-- The chapter "Typing": what the code's walk says, as a state of the judge.
use Rattle.std.specs.Prelude.{cond, List, [], ◌∷◌, map, Option, Some, None}
use Rattle.fort_base.specs.declared.refusal.Place.{Place}
use Rattle.fort_base.specs.declared.ty.Ty.{Ty}
use Rattle.fort_ops.specs.declared.op.Op.{Op}
use Rattle.fort_form.specs.declared.form.Form.{Form}
use Rattle.fort_form.specs.declared.form.Parameter.{Parameter}
use Rattle.fort_typing_known.specs.Known.{Facts}
use Rattle.fort_typing_known.specs.Sets.{operator_set}
use Rattle.fort_typing_known.specs.Below.{is_below}
use Rattle.fort_base.specs.declared.rules.TheConstants.{NOT_AN_EXCEPTION}
use Rattle.fort_typing_meaning.specs.Faults.{breaks}
use Rattle.fort_typing_call.specs.Called.{called}
use Rattle.fort_form_typed.specs.declared.typed_form.TypedForm.{TypedForm}
use Rattle.fort_typing_known.specs.declared.fault.Fault.{Fault}
use Rattle.fort_typing_rules.specs.declared.part.Meaning.{Meaning}
use Rattle.fort_typing_rules.specs.Types.{exception, type_of}
use Rattle.fort_typing_rules.specs.Typing.{parameter_binding}
use Rattle.fort_typing_meaning.specs.Judging.{judged}
use Rattle.fort_typing_meaning.specs.declared.frame.Valued.{Valued}
use Rattle.fort_typing_meaning.specs.Tests.{no_node, valued}
use Rattle.fort_typing_meaning.specs.Parts.{State, as_wanted_below, is_broken, begin, bind_all, said, below_by, compared_by, side_place, side_type}
use Rattle.fort_typing_walk.specs.declared.walk.Walk.{Walk}

abbrev pub state : Walk → State
state w = record { seen = w.seen; frame = w.frame; bindings = w.scope; found = w.found }

-- two types, where there are both, are compared by an operator
abbrev pub compared_types : Facts → Op → Place → Option Ty → Option Ty → State → State
compared_types k op place (Some t) (Some u) s =
    compared_by k op place (called k (operator_set k op 2) (t ∷ u ∷ [])) s
compared_types k op place _ _ s = s

-- the next side of a chain has this type, behind an operator or none
abbrev pub behind_side : Facts → Option Op → Place → Option Ty → State → State
behind_side k (Some op) place u s =
    compared_types k op (side_place place s.frame.side) (side_type s.frame.side) u s
behind_side k None place u s = s

-- what an assigned value has become: below the target's type, where there is a target
abbrev pub assigned_by : Facts → Place → Option TypedForm → Meaning → Option Fault → Valued
assigned_by k place (Some t) seen found =
    below_by k (type_of t) place (valued place seen found).node (valued place seen found).found
assigned_by k place None seen found = valued place seen found

-- What a body has become, with its parameters bound, below its written result, and the first broken
-- rule so far. Where a parameter is visible it isn't asked.
abbrev pub body_asked : Facts → Ty → Form → State → Valued
body_asked k ty e s =
    cond s.frame.lost (no_node s.found)
    (as_wanted_below k ty (judged k e).place (said (judged k e) s))

unfoldable pub body_answer : Facts → List Parameter → Ty → Form → Option Fault → Valued
body_answer k ps ty e found =
    body_asked k ty e (bind_all k (map parameter_binding ps) (begin [] found))

-- the type of a clause is below `Exception`, else 612 at it
abbrev pub caught : Facts → Place → Ty → State → State
caught k place ty s =
    cond (is_below k ty exception) s
    (record s { frame = is_broken s.frame; found = breaks NOT_AN_EXCEPTION place s.found })
