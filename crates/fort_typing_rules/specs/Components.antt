-- The chapter "Typing", declarations, and which refusal comes. The code asks one declaration after
-- another.
use Rattle.std.specs.Prelude.{◌≡◌, ◌<◌, ℕ, Bool, false, List, [], ◌∷◌, length, map, slice_get, codes, Option, Some}
use Rattle.fort_base.specs.Places.{IsBefore}
use Rattle.fort_base.specs.declared.ids.NameId.{NameId}
use Rattle.fort_base.specs.declared.ids.TypeId.{TypeId}
use Rattle.fort_base.specs.declared.refusal.Place.{Place}
use Rattle.fort_base.specs.declared.rules.TheConstants.{MISMATCH, INITIAL_NOT_CONSTANT, NO_RUN}
use Rattle.fort_base.specs.declared.ty.Ty.{Ty}
use Rattle.fort_ops.specs.declared.op.Op.TheVariants as an_op
use Rattle.fort_types_sets.specs.declared.member.Member.{Member}
use Rattle.fort_types_sets.specs.declared.member.MemberSet.{MemberSet}
use Rattle.fort_types_sets.specs.Rules.{StandsAt}
use Rattle.fort_scope.specs.declared.binding.Binding.{Binding}
use Rattle.fort_form.specs.declared.form.Form.{Form, out-Form}
use Rattle.fort_form.specs.declared.form.Form.TheOpen.{Form-F}
use Rattle.fort_form.specs.declared.component.BodyForm.{BodyForm}
use Rattle.fort_form.specs.declared.component.Forms.{Forms}
use Rattle.fort_form.specs.declared.component.InitialForm.{InitialForm}
use Rattle.fort_form_typed.specs.declared.component.Typed.{Typed}
use Rattle.fort_form_typed.specs.declared.component.TypedBody.{TypedBody}
use Rattle.fort_form_typed.specs.declared.typed_form.TypedForm.{TypedForm}
use Rattle.fort_form_typed.specs.declared.typed_form.TypedForm.TheVariants as a_typed
use Rattle.fort_typing_known.specs.declared.fault.Fault.{Fault}
use Rattle.fort_typing_known.specs.Known.{Knows, within}
use Rattle.fort_typing_known.specs.Sets.{set_of, operator_set}
use Rattle.fort_typing_rules.specs.Types.{string, boolean, unit, number_type, IsBelow, type_of, place_of, fault}
use Rattle.fort_typing_rules.specs.Calls.{Calls, set_at}
use Rattle.fort_typing_rules.specs.Elements.{chosen}
use Rattle.fort_typing_rules.specs.Typing.{HasAs, Binds, below, parameter_binding}
use Rattle.fort_typing_rules.specs.Breaking.{BreaksAs, BindingBreaks}

-- ---- constants

-- A form is a constant: a number, `-` before a number, a text, a truth value, or `()`.
pub data IsConstant (k : Knows) (e : Form) (t : TypedForm) : Type 0 where
  number : (p : Place) (n : ℕ) → out-Form e ≡ Form-F.Number p n
      → t ≡ a_typed.Number (number_type n) n → IsConstant k e t
  -- it has the type of the number
  negative : (p q : Place) (d : Form) (n : ℕ) → out-Form e ≡ Form-F.Operator p an_op.Minus (d ∷ [])
      → out-Form d ≡ Form-F.Number q n
      → t ≡ a_typed.Operation (number_type n)
      (chosen (operator_set k.facts an_op.Minus 1) (false ∷ []))
      (a_typed.Number (number_type n) n ∷ []) → IsConstant k e t
  words : (p : Place) (n : ℕ) → out-Form e ≡ Form-F.Text p n → t ≡ a_typed.Text string n
      → IsConstant k e t
  truth : (p : Place) (b : Bool) → out-Form e ≡ Form-F.Truth p b → t ≡ a_typed.Truth boolean b
      → IsConstant k e t
  nothing : (p : Place) → out-Form e ≡ Form-F.Tuple p [] → t ≡ a_typed.Tuple unit []
      → IsConstant k e t

-- ---- declarations

-- An initial is a constant below its written type.
pub data HasInitial (k : Knows) (i : InitialForm) (t : TypedForm) : Type 0 where
  initial : IsConstant k i.value t → IsBelow k (type_of t) i.ty → HasInitial k i t

-- An initial is no constant (608), or its type isn't below the written one (603).
pub data InitialBreaks (k : Knows) (i : InitialForm) (x : Fault) : Type 0 where
  no_constant : ((t : TypedForm) → IsConstant k i.value t → ⊥)
      → x ≡ fault INITIAL_NOT_CONSTANT (place_of i.value) → InitialBreaks k i x
  unlike : (t : TypedForm) → IsConstant k i.value t → (IsBelow k (type_of t) i.ty → ⊥)
      → x ≡ fault MISMATCH (place_of i.value) → InitialBreaks k i x

-- A body has a type below its written result, with its parameters bound.
pub data HasBody (k : Knows) (b : BodyForm) (t : TypedForm) : Type 0 where
  body : (inner : List Binding)
      → Binds (within k b.owner) [] (map parameter_binding b.parameters) inner
      → HasAs (within k b.owner) (Calls k) inner (below b.result) b.body t → HasBody k b t

-- A parameter of a body is visible (613), or the body breaks a rule.
pub data BodyBreaks (k : Knows) (b : BodyForm) (x : Fault) : Type 0 where
  parameters : BindingBreaks (within k b.owner) [] (map parameter_binding b.parameters) x
      → BodyBreaks k b x
  within_ : (inner : List Binding)
      → Binds (within k b.owner) [] (map parameter_binding b.parameters) inner
      → BreaksAs (within k b.owner) inner (below b.result) b.body x → BodyBreaks k b x

-- There is a function `run` without parameters and with the result `()`.
pub record HasRun (k : Knows) : Type 0 where
  pub set : MemberSet
  pub is : set_at k (set_of k.facts (codes "run") false 0) ≡ Some set
  pub at : ℕ
  pub declaration : Member
  pub stands : StandsAt set at declaration
  pub result : declaration.result ≡ unit

-- ---- components

-- what a typed form of an initial keeps of it
abbrev pub typed_initial : InitialForm → TypedForm → Option TypeId × NameId × Ty × TypedForm
typed_initial i t = (i.owner, i.name, i.ty, t)

-- what a typed body keeps of it
abbrev pub typed_body : BodyForm → TypedForm → TypedBody
typed_body b t =
    record { place = b.place; parameters = b.parameters; receiver = b.receiver; body = t }

-- The forms of a component become this typed component.
pub record HasTypes (k : Knows) (forms : Forms) (typed : Typed) : Type 0 where
  pub initials : length typed.initials ≡ length forms.initials
  pub each_initial : (n : ℕ) (i : InitialForm) → slice_get forms.initials n ≡ Some i
      → (t : TypedForm) × HasInitial k i t × (slice_get typed.initials n ≡ Some (typed_initial i t))
  pub bodies : length typed.bodies ≡ length forms.bodies
  pub each_body : (n : ℕ) (b : BodyForm) → slice_get forms.bodies n ≡ Some b
      → (t : TypedForm) × HasBody k b t × (slice_get typed.bodies n ≡ Some (typed_body b t))
  pub runs : HasRun k

-- A declaration of a component breaks a rule.
pub data DeclarationBreaks (k : Knows) (forms : Forms) (x : Fault) : Type 0 where
  initial : (n : ℕ) (i : InitialForm) → slice_get forms.initials n ≡ Some i → InitialBreaks k i x
      → DeclarationBreaks k forms x
  body : (n : ℕ) (b : BodyForm) → slice_get forms.bodies n ≡ Some b → BodyBreaks k b x
      → DeclarationBreaks k forms x

-- One broken rule goes before another: by its place, and at one place by its number.
pub data GoesBefore (x y : Fault) : Type 0 where
  earlier : IsBefore x.place y.place → GoesBefore x y
  lower : x.place ≡ y.place → x.rule.0 < y.rule.0 → GoesBefore x y

-- The broken rule that is reported: the first one of a declaration; or 609 at the component's name
-- where no declaration breaks one.
pub data IsReported (k : Knows) (forms : Forms) (x : Fault) : Type 0 where
  first : DeclarationBreaks k forms x
      → ((y : Fault) → DeclarationBreaks k forms y → GoesBefore y x → ⊥) → IsReported k forms x
  no_run : ((y : Fault) → DeclarationBreaks k forms y → ⊥) → (HasRun k → ⊥)
      → x ≡ fault NO_RUN forms.name → IsReported k forms x
