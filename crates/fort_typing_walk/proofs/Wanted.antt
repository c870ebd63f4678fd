-- A value below a type, and an element that isn't `Nothing`, by what was tested.
use Rattle.std.proofs.Common.{◌≡◌, Bool, true, false, cond, Option, Some, refl, ap, ◌∙◌}
use Rattle.fort_base.specs.declared.refusal.Place.{Place}
use Rattle.fort_base.specs.declared.rules.TheConstants.{MISMATCH}
use Rattle.fort_base.specs.declared.ty.Ty.{Ty}
use Rattle.fort_form_typed.specs.declared.typed_form.TypedForm.{TypedForm}
use Rattle.fort_typing_known.specs.declared.fault.Fault.{Fault}
use Rattle.fort_typing_known.specs.Known.{Facts}
use Rattle.fort_typing_known.specs.Below.{is_below}
use Rattle.fort_typing_rules.specs.declared.part.Meaning.TheVariants as a_meaning
use Rattle.fort_typing_rules.specs.Types.{type_of, is_nothing}
use Rattle.fort_typing_meaning.specs.declared.frame.Outcome.{Outcome}
use Rattle.fort_typing_meaning.specs.declared.frame.Valued.{Valued}
use Rattle.fort_typing_meaning.specs.Faults.{breaks}
use Rattle.fort_typing_meaning.specs.Tests.{no_node, refused, value}
use Rattle.fort_typing_meaning.specs.Parts.{below_by, element_meaning, element_found}

abbrev pub fitting : TypedForm → Option Fault → Valued
fitting t found = record { node = Some t; found = found }

pub is_typed_below : (k : Facts) (ty : Ty) (place : Place) (t : TypedForm) (found : Option Fault)
    (own : Ty) (fits : Bool) (r : Valued)
    → own ≡ type_of t → fits ≡ is_below k own ty
    → r ≡ cond fits (fitting t found) (no_node (breaks MISMATCH place found))
    → r ≡ below_by k ty place (Some t) found
is_typed_below k ty place t found own fits r o f e =
    e ∙ ap (λ
    (b : Bool). cond b (fitting t found) (no_node (breaks MISMATCH place found))) (f ∙ ap (λ
    (u : Ty). is_below k u ty) o)

abbrev element_by : Place → TypedForm → Option Fault → Bool → Outcome
element_by place t found bars =
    record {
      seen = cond bars a_meaning.Unknown (a_meaning.Value t);
      found = cond bars (breaks MISMATCH place found) found;
    }

by_test : (place : Place) (t : TypedForm) (found : Option Fault) (bars : Bool)
    → cond bars (refused MISMATCH place found) (value t found) ≡ element_by place t found bars
by_test place t found true = refl
by_test place t found false = refl

pub is_typed_element : (place : Place) (t : TypedForm) (found : Option Fault) (own : Ty)
    (bars : Bool) (r : Outcome)
    → own ≡ type_of t → bars ≡ is_nothing own
    → r ≡ cond bars (refused MISMATCH place found) (value t found)
    → r ≡ record {
      seen = element_meaning (a_meaning.Value t);
      found = element_found place (a_meaning.Value t) found;
    }
is_typed_element place t found own bars r o b e =
    e ∙ (by_test place t found bars ∙ ap (element_by place t found) (b ∙ ap is_nothing o))
