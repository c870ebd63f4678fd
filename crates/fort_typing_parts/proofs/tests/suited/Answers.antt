use Rattle.std.proofs.Common.{◌≡◌, Bool, cond, Option, Some, ap, ◌∙◌}
use Rattle.fort_base.specs.declared.refusal.Place.{Place}
use Rattle.fort_base.specs.declared.refusal.Rule.{Rule}
use Rattle.fort_base.specs.declared.ty.Ty.{Ty}
use Rattle.fort_form_typed.specs.declared.typed_form.TypedForm.{TypedForm}
use Rattle.fort_typing_known.specs.declared.fault.Fault.{Fault}
use Rattle.fort_typing_known.specs.Known.{Facts}
use Rattle.fort_typing_known.specs.Read.{facts}
use Rattle.fort_typing_rules.specs.Types.{type_of}
use Rattle.fort_typing_meaning.specs.declared.frame.Want.{Want}
use Rattle.fort_typing_meaning.specs.declared.frame.Valued.{Valued}
use Rattle.fort_typing_meaning.specs.Faults.{breaks}
use Rattle.fort_typing_meaning.specs.Tests.{suits, rule_of, no_node, as_wanted}
use Rattle.fort_typing_parts.proofs.tests.suited.Goals as goal

abbrev fitting : TypedForm → Option Fault → Valued
fitting typed found = record { node = Some typed; found = found }

is_wanted : (k : Facts) (want : Want) (place : Place) (typed : TypedForm) (found : Option Fault)
    (ty : Ty) (fits : Bool) (rule : Rule) (r : Valued)
    → ty ≡ type_of typed → fits ≡ suits k want ty → rule ≡ rule_of want
    → r ≡ cond fits (fitting typed found) (no_node (breaks rule place found))
    → r ≡ as_wanted k want place (Some typed) found
is_wanted k want place typed found ty fits rule r t s u e =
    e ∙ (ap (λ
    (f : Bool). cond f (fitting typed found) (no_node (breaks rule place found))) (s
    ∙ ap (suits k want) t)
    ∙ ap (λ (q : Rule). cond (suits k want (type_of typed)) (fitting typed found)
    (no_node (breaks q place found))) u)

pub returns : goal.returns
returns c =
    is_wanted (facts c.args.known.now) c.args.want c.args.place c.args.typed c.args.found
    c.type_of.result.now c.suits-fits.result c.rule_of.result c.if_suited.result
    c.type_of.ensures c.suits-fits.ensures c.rule_of.ensures c.if_suited.ensures
