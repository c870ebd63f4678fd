-- The law of one body.
use Rattle.std.proofs.Common.{List}
use Rattle.fort_base.specs.declared.ty.Ty.{Ty}
use Rattle.fort_scope.specs.declared.binding.Binding.{Binding}
use Rattle.fort_form.specs.declared.form.Form.{Form}
use Rattle.fort_form_typed.specs.declared.typed_form.TypedForm.{TypedForm}
use Rattle.fort_core.specs.declared.program.Program.{Program}
use Rattle.fort_sound_typed.specs.Envs.{Env, none, binds}
use Rattle.fort_sound_typed.specs.Typing.{Has}
use Rattle.fort_sound_typed.specs.Sound.{opening, numbered}
use Rattle.fort_sound_typed.proofs.Rules.{sub}
use Rattle.fort_typing_known.specs.Known.{Knows, within}
use Rattle.fort_typing_rules.specs.Types.{type_of}
use Rattle.fort_typing_rules.specs.Calls.{Calls}
use Rattle.fort_typing_rules.specs.Components.{body, typed_body}
use Rattle.fort_typing_rules.specs.Typing as rule
use Rattle.fort_typing_law_rules.specs.Deciding.{IsAccepted}
use Rattle.fort_typing_law_rules.specs.Written.{IsWritten, AreBound}
use Rattle.fort_typing_law_rules.proofs.Typed.{typed-of, binds-bound, parameters-bound}
use Rattle.fort_typing_law_exact.proofs.MoreCalls.{has_as}
use Rattle.fort_elab_meaning.specs.declared.counter.Counter.{Counter}
use Rattle.fort_elab_meaning.specs.Making.{Scope}
use Rattle.fort_elab_meaning.specs.Parts.{Given}
use Rattle.fort_elab_meaning.specs.Translated.{translated}
use Rattle.fort_elab_meaning.specs.Bodies.{scope_of, width}
use Rattle.fort_sound_forms.specs.Figures.{HasFigures}
use Rattle.fort_sound_forms.specs.Forms.{Agrees}
use Rattle.fort_sound_forms.specs.Suits.{Suits}
use Rattle.fort_sound_forms.proofs.Facts.{tr, told}
use Rattle.fort_sound_forms.proofs.Sound.{forms_have_types}
use Rattle.fort_sound_bodies.specs.Bodies.{BodiesHaveTypes}
use Rattle.fort_sound_bodies.proofs.Within.{there, accepted_within, suits_within}
use Rattle.fort_sound_bodies.proofs.Parameters.{agrees}

module _ (k : Knows) (A : IsAccepted k) (g : Given) (p : Program) (U : Suits k g p) where
  -- a form below a type, where the variables go with the bindings
  form_below : {bs : List Binding} {ty : Ty} {e : Form} {t : TypedForm}
      → rule.HasAs k (Calls k) bs (rule.below ty) e t → AreBound k bs → IsWritten k e → HasFigures e
      → (s : Scope) (c : Counter) (G : Env)
      → Agrees k bs s c.variable G → Has p (opening p) G (let m = translated g t s c in m.term) ty
  form_below {bs} {ty} {e} {t} (rule.suits h w) B W F s c G a =
      sub p (opening p) (tr k A g p U) (forms_have_types k A g p U bs B e W F t h s c G a)
      (told k A g p U (type_of t) ty (typed-of k A h B W).0 w)

pub bodies_have_types : BodiesHaveTypes
bodies_have_types k A g p U b R F t (body inner bs h) types w next =
    let j = within k b.owner in
    let B = accepted_within k b.owner A R.owner in
    let c = typed_body b t in
    form_below j B g p (suits_within k b.owner g p U)
    (has_as j (Calls k) (Calls j) (there k b.owner) h)
    (binds-bound j B bs tt (parameters-bound j B b.parameters R.parameters)) R.written F
    (scope_of c) (record { variable = width c; function = next }) (binds (numbered 0 types) none)
    (agrees k b.owner b.receiver b.parameters types inner bs w)
