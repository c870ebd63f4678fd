-- The chapter "Juxtaposition": what the judge computes of elements is what the chapter's rules say.
use Rattle.std.specs.Prelude.{◌≡◌, List, Option, Some, None, Result}
use Rattle.fort_base.specs.declared.refusal.CheckFault.{CheckFault}
use Rattle.fort_base.specs.declared.ty.Ty.{Ty}
use Rattle.fort_juxt.specs.declared.elements.Element.{Element}
use Rattle.fort_juxt.specs.declared.elements.Grouping.{Grouping}
use Rattle.fort_juxt.specs.declared.elements.Tight.{Tight}
use Rattle.fort_juxt.specs.Tight.{Rewrites}
use Rattle.fort_juxt.specs.Loose.{Groups}
use Rattle.fort_scope.specs.declared.binding.Binding.{Binding}
use Rattle.fort_form.specs.declared.form.Form.{Form}
use Rattle.fort_form_typed.specs.declared.typed_form.TypedForm.{TypedForm}
use Rattle.fort_typing_known.specs.declared.fault.Fault.{Fault}
use Rattle.fort_typing_known.specs.Known.{Knows}
use Rattle.fort_typing_rules.specs.declared.part.Part.{Part}
use Rattle.fort_typing_rules.specs.Types.{IsWidest, HasNoWidest}
use Rattle.fort_typing_rules.specs.Calls.{Calls}
use Rattle.fort_typing_rules.specs.Elements.{Becomes, Stands}
use Rattle.fort_typing_rules.specs.Typing.{Has}
use Rattle.fort_typing_meaning.specs.Tests.{value, widest}
use Rattle.fort_typing_meaning.specs.Joining.{run, beside}
use Rattle.fort_typing_meaning.specs.Juxtaposing.{next_rewriting, grouping_of}
use Rattle.fort_typing_meaning.specs.Judging.{judged}
use Rattle.fort_typing_law_rules.specs.Deciding.{AreTypes, IsAccepted}
use Rattle.fort_typing_law_rules.specs.Written.{IsWritten, AreBound}
use Rattle.fort_typing_law_rules.specs.Typed.{AreTyped}

-- The next rewriting of a run, or its refusal, is the one that is computed.
abbrev pub RewritingIsComputed : Type 0
RewritingIsComputed = (es : List Element) (r : Result Tight CheckFault) → Rewrites es r
    → next_rewriting es ≡ r

-- The grouping of elements, or its refusal, is the one that is computed.
abbrev pub GroupingIsComputed : Type 0
GroupingIsComputed = (es : List Element) (r : Result Grouping CheckFault) → Groups es r
    → grouping_of es ≡ r

-- Of an accepted component, and elements whose types are the component's: a run that becomes a
-- typed form is answered with it.
abbrev pub RunIsComputed : Type 0
RunIsComputed = (k : Knows) → IsAccepted k → (ps : List Part) → AreTyped k ps → (t : TypedForm)
    → Becomes k (Calls k) ps t → (found : Option Fault) → run k.facts ps found ≡ value t found

-- So a run becomes one typed form at most.
abbrev pub OneRun : Type 0
OneRun = (k : Knows) → IsAccepted k → (ps : List Part) → AreTyped k ps → (t u : TypedForm)
    → Becomes k (Calls k) ps t → Becomes k (Calls k) ps u → t ≡ u

-- Likewise a juxtaposition.
abbrev pub BesideIsComputed : Type 0
BesideIsComputed = (k : Knows) → IsAccepted k → (ps : List Part) → AreTyped k ps → (t : TypedForm)
    → Stands k (Calls k) ps t → (found : Option Fault) → beside k.facts ps found ≡ value t found

abbrev pub OneBeside : Type 0
OneBeside = (k : Knows) → IsAccepted k → (ps : List Part) → AreTyped k ps → (t u : TypedForm)
    → Stands k (Calls k) ps t → Stands k (Calls k) ps u → t ≡ u

-- The widest type of several of the component's, or that there is none, is what is computed.
pub record WidestIsComputed : Type 0 where
  pub one : (k : Knows) → IsAccepted k → (types : List Ty) → AreTypes k types → (t : Ty)
      → IsWidest k types t → widest k.facts types ≡ Some t
  pub none : (k : Knows) → IsAccepted k → (types : List Ty) → AreTypes k types → HasNoWidest k types
      → widest k.facts types ≡ None

-- Where the types that are written in a form, and those of the bindings, are the component's: a
-- form that becomes a typed form by the rules is answered with it, and the first broken rule so far
-- is left as it was.
abbrev pub HasIsAnswered : Type 0
HasIsAnswered = (k : Knows) → IsAccepted k → (bs : List Binding) → AreBound k bs → (e : Form)
    → IsWritten k e → (t : TypedForm) → Has k (Calls k) bs e t
    → (found : Option Fault) → (judged k.facts e).answer bs found ≡ value t found

-- So in the same bindings a form becomes one typed form at most.
abbrev pub OneTypedForm : Type 0
OneTypedForm = (k : Knows) → IsAccepted k → (bs : List Binding) → AreBound k bs → (e : Form)
    → IsWritten k e → (t u : TypedForm) → Has k (Calls k) bs e t → Has k (Calls k) bs e u → t ≡ u
