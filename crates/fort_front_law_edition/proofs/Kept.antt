-- What edition 1 accepts is accepted, with the same program.
use Rattle.std.proofs.Common.{Bool, List}
use Rattle.fort_base.specs.declared.ids.SetId.{SetId}
use Rattle.fort_base.specs.declared.ty.Ty.{Ty}
use Rattle.fort_form.specs.declared.component.BodyForm.{BodyForm}
use Rattle.fort_form.specs.declared.component.Forms.{Forms}
use Rattle.fort_form_typed.specs.declared.component.Typed.{Typed}
use Rattle.fort_form_typed.specs.declared.typed_form.TypedForm.{TypedForm}
use Rattle.fort_typing_known.specs.Known.{Knows, within}
use Rattle.fort_typing_rules.specs.Calls.{Calls, plain}
use Rattle.fort_typing_rules.specs.Components as now
use Rattle.fort_typing_rules.specs.Components.{HasBody, HasTypes}
use Rattle.fort_typing_rules.specs.EditionOne.{CallsInOne}
use Rattle.fort_typing_rules.specs.EditionOne as in_one
use Rattle.fort_typing_law_exact.proofs.MoreCalls.{has_as}
use Rattle.fort_front.specs.Front.{known, forms}
use Rattle.fort_front_law_edition.specs.Accepted.{HasBodyInOne, body, HasTypesInOne, TreeIsKept, ComponentIsKept, TokensAreKept}

-- a call of edition 1 is a call
still_calls : (k : Knows) (set : SetId) (types : List Ty) (result : Ty) (widened : List Bool)
    → CallsInOne k set types result widened → Calls k set types result widened
still_calls k set types result widened (in_one.plain s i d is best stands r w) =
    plain s i d is best stands r w

body_kept : (k : Knows) (b : BodyForm) (t : TypedForm) → HasBodyInOne k b t → HasBody k b t
body_kept k b t (body inner binds has) =
    now.body inner binds (has_as (within k b.owner) (CallsInOne k) (Calls k) (still_calls k) has)

types_kept : (k : Knows) (forms : Forms) (typed : Typed) → HasTypesInOne k forms typed
    → HasTypes k forms typed
types_kept k forms typed h = record {
  initials = h.initials;
  each_initial = h.each_initial;
  bodies = h.bodies;
  each_body = λ n b e. let w = h.each_body n b e in (w.0, body_kept k b w.0 w.1, w.2);
  runs = h.runs;
}

pub tree_kept : TreeIsKept
tree_kept c program h = record {
  formed = h.formed;
  typed = h.typed;
  has_types = types_kept (known c h.formed) (forms c h.formed) h.typed h.has_types;
  becomes = h.becomes;
}

pub component_kept : ComponentIsKept
component_kept c program h = record {
  rewritten = h.rewritten;
  becomes = h.becomes;
  keeps = tree_kept h.rewritten program h.keeps;
}

pub tokens_kept : TokensAreKept
tokens_kept tokens program h = record {
  component = h.component;
  is = h.is;
  keeps = component_kept h.component program h.keeps;
}
