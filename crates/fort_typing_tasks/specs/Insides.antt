-- The chapter "Typing": the parts of the forms that bind names, in the judge's words.
use Rattle.std.specs.Prelude.{List, [], ◌∷◌, map, Option, Some, None}
use Rattle.fort_base.specs.declared.ids.NameId.{NameId}
use Rattle.fort_base.specs.declared.refusal.Place.{Place}
use Rattle.fort_form.specs.declared.form.Parameter.{Parameter}
use Rattle.fort_form.specs.declared.form.Reduction.{Reduction}
use Rattle.fort_form.specs.declared.form.Update.{Update}
use Rattle.fort_typing_known.specs.Known.{Facts}
use Rattle.fort_typing_rules.specs.Typing.{parameter_binding, update_operator}
use Rattle.fort_typing_meaning.specs.declared.frame.Want.TheVariants as a_want
use Rattle.fort_typing_meaning.specs.declared.frame.Slot.TheVariants as a_slot
use Rattle.fort_typing_meaning.specs.Parts.{Judge, Arm, Clause, Giving, State, said, ask, ask_if, unless_lost, bind_all, watch, sources, take_subject, clauses, catches, cases, lost_if_broken, else_with}
use Rattle.fort_typing_meaning.specs.Judging.{assigned_part, reduction_want, take_target}

abbrev pub for_inside : Facts → List Giving → Judge → State → State
for_inside k gs b s = unless_lost (ask k a_slot.Last a_want.Unit b) (sources k gs s)

abbrev pub reduce_inside : Facts → Reduction → Giving → Judge → State → State
reduce_inside k r g e s =
    unless_lost (ask k a_slot.Last (reduction_want r) e) (sources k (g ∷ []) s)

abbrev pub case_inside : Facts → Judge → List Arm → Option Judge → State → State
case_inside k j as_ other s =
    ask_if k a_slot.Last a_want.Value other (clauses k as_ (take_subject k j.place (said j s)))

abbrev pub typecase_inside : Facts → Place × NameId → Judge → List Clause → Option Judge → State
    → State
typecase_inside k name j cs other s =
    unless_lost (λ t. else_with k (Some name) other (cases k (Some name) cs t))
    (lost_if_broken (ask k a_slot.Head a_want.Value j (watch k (Some name) s)))

abbrev pub try_inside : Facts → Judge → Option (Place × NameId) → List Clause → Option Judge → State
    → State
try_inside k j name cs last s =
    ask_if k a_slot.Last a_want.Unit last
    (unless_lost (cases k name cs)
    (catches k cs (watch k name (ask k a_slot.Head a_want.Value j s))))

abbrev pub fn_inside : Facts → List Parameter → Judge → State → State
fn_inside k ps e s =
    unless_lost (ask k a_slot.Head a_want.Value e) (bind_all k (map parameter_binding ps) s)

abbrev pub assign_inside : Facts → Judge → Update → Judge → State → State
assign_inside k j sign e s = assigned_part k (update_operator sign) e (take_target k j (said j s))
