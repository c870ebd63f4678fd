-- The chapter "Typing", calls: what a call of a set has for the types of its arguments, as it is
-- computed.
use Rattle.std.specs.Prelude.{◌≡◌, Bool, true, false, cond, List, length, replicate, slice_get, Option, Some, None}
use Rattle.fort_base.specs.declared.ids.SetId.{SetId}
use Rattle.fort_base.specs.declared.rules.TheConstants.{NOT_APPLICABLE, WIDENING_UNCLEAR}
use Rattle.fort_base.specs.declared.ty.Ty.{Ty}
use Rattle.fort_types_sets.specs.declared.member.Member.{Member}
use Rattle.fort_types_sets.specs.declared.member.MemberSet.{MemberSet}
use Rattle.fort_typing_known.specs.Known.{Facts}
use Rattle.fort_typing_call.specs.Fitting.{first_best, any_fits, positions, widened_types}
use Rattle.fort_typing_call.specs.declared.called.Called.{Called}
use Rattle.fort_typing_call.specs.declared.called.Called.TheVariants as a_call

-- the answer where one declaration is the most specific for widened types
abbrev pub called_wide : List Bool → Option Member → Called
called_wide widened (Some d) = a_call.Result d.result widened
called_wide widened None = a_call.Refused NOT_APPLICABLE

-- the answer by the declaration that widens least
abbrev pub called_widened : Facts → List Member → List Ty → Option Member → Called
called_widened k members types (Some p) =
    called_wide (positions types p.parameters)
    (first_best k false (widened_types types p.parameters) members members)
called_widened k members types None =
    cond (any_fits k true types members) (a_call.Refused WIDENING_UNCLEAR)
    (a_call.Refused NOT_APPLICABLE)

-- the answer by the most specific declaration
abbrev pub called_plain : Facts → List Member → List Ty → Option Member → Called
called_plain k members types (Some d) = a_call.Result d.result (replicate (length types) false)
called_plain k members types None =
    cond (any_fits k false types members) (a_call.Refused NOT_APPLICABLE)
    (called_widened k members types (first_best k true types members members))

abbrev pub called_in : Facts → List Ty → Option MemberSet → Called
called_in k types (Some s) =
    called_plain k s.members types (first_best k false types s.members s.members)
called_in k types None = a_call.Refused NOT_APPLICABLE

-- What a call of a set with arguments of these types has.
unfoldable pub called : Facts → SetId → List Ty → Called
called k set types = called_in k types (slice_get k.members.sets set.0)
