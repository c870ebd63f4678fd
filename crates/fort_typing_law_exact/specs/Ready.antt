-- The chapter "Typing": the forms of a component, as they come to typing.
use Rattle.std.specs.Prelude.{◌≡◌, ◌<◌, length, Some}
use Rattle.std.specs.List.{AllByRecursion}
use Rattle.fort_base.specs.declared.ids.TypeId.{TypeId}
use Rattle.fort_form.specs.declared.component.BodyForm.{BodyForm}
use Rattle.fort_form.specs.declared.component.Forms.{Forms}
use Rattle.fort_form.specs.declared.component.InitialForm.{InitialForm}
use Rattle.fort_form.specs.declared.form.Parameter.{Parameter}
use Rattle.fort_form.specs.Shapes.{IsShaped}
use Rattle.fort_typing_known.specs.Known.{Knows}
use Rattle.fort_typing_law_rules.specs.Deciding.{IsType, IsAccepted}
use Rattle.fort_typing_law_rules.specs.Written.{IsWritten}

-- A function or a method with a body: its types, those that are written in its body, and the type
-- in whose declaration it stands, are the component's, and its body is an expression of a shape
-- that the grammar gives.
pub record IsBodyReady (k : Knows) (b : BodyForm) : Type 0 where
  pub owner : (t : TypeId) → b.owner ≡ Some t → t.0 < length k.declared
  pub parameters : AllByRecursion (λ (p : Parameter). IsType k p.ty) b.parameters
  pub result : IsType k b.result
  pub written : IsWritten k b.body
  pub shaped : IsShaped b.body

-- The component is accepted, and so are its forms: the written types of variables and fields are
-- the component's, and its bodies are as above.
pub record IsReady (k : Knows) (forms : Forms) : Type 0 where
  pub accepted : IsAccepted k
  pub initials : AllByRecursion (λ (i : InitialForm). IsType k i.ty) forms.initials
  pub bodies : AllByRecursion (IsBodyReady k) forms.bodies
