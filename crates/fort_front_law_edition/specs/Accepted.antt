-- The chapter "Typing", edition 1, of whole files: what was accepted where no call was widened, and
-- that it is accepted with the same program. All but the calls in bodies is as it is now.
use Rattle.std.specs.Prelude.{◌≡◌, ℕ, List, [], length, map, slice_get, Some}
use Rattle.fort_core.specs.declared.program.Program.{Program}
use Rattle.fort_lex_token.specs.declared.token.Tokens.{Tokens}
use Rattle.fort_tree.specs.declared.declarations.Component.{Component}
use Rattle.fort_scope.specs.declared.binding.Binding.{Binding}
use Rattle.fort_form.specs.declared.component.BodyForm.{BodyForm}
use Rattle.fort_form.specs.declared.component.Forms.{Forms}
use Rattle.fort_form.specs.declared.component.InitialForm.{InitialForm}
use Rattle.fort_form_typed.specs.declared.component.Typed.{Typed}
use Rattle.fort_form_typed.specs.declared.typed_form.TypedForm.{TypedForm}
use Rattle.fort_typing_known.specs.Known.{Knows, within}
use Rattle.fort_typing_rules.specs.Typing.{HasAs, Binds, below, parameter_binding}
use Rattle.fort_typing_rules.specs.Components.{HasInitial, HasRun, typed_initial, typed_body}
use Rattle.fort_typing_rules.specs.EditionOne.{CallsInOne}
use Rattle.fort_elab_meaning.specs.Programs.{IsProgramOf}
use Rattle.fort_spawn.specs.Rewritten.{IsRewritten}
use Rattle.fort_syntax.specs.Answer.{IsComponent}
use Rattle.fort_front.specs.Front.{IsFormed, known, forms, IsAccepted, IsAcceptedComponent, IsAcceptedTree}

-- ---- in edition 1

-- A body has a type below its written result, with its parameters bound, where no call is widened.
pub data HasBodyInOne (k : Knows) (b : BodyForm) (t : TypedForm) : Type 0 where
  body : (inner : List Binding)
      → Binds (within k b.owner) [] (map parameter_binding b.parameters) inner
      → HasAs (within k b.owner) (CallsInOne k) inner (below b.result) b.body t
      → HasBodyInOne k b t

-- The forms of a component become this typed component, where no call is widened.
pub record HasTypesInOne (k : Knows) (forms : Forms) (typed : Typed) : Type 0 where
  pub initials : length typed.initials ≡ length forms.initials
  pub each_initial : (n : ℕ) (i : InitialForm) → slice_get forms.initials n ≡ Some i
      → (t : TypedForm) × HasInitial k i t × (slice_get typed.initials n ≡ Some (typed_initial i t))
  pub bodies : length typed.bodies ≡ length forms.bodies
  pub each_body : (n : ℕ) (b : BodyForm) → slice_get forms.bodies n ≡ Some b
      → (t : TypedForm) × HasBodyInOne k b t × (slice_get typed.bodies n ≡ Some (typed_body b t))
  pub runs : HasRun k

-- The component keeps all the rules behind the grammar, with this program, where no call is
-- widened.
pub record IsAcceptedTreeInOne (c : Component) (program : Program) : Type 0 where
  pub formed : IsFormed c
  pub typed : Typed
  pub has_types : HasTypesInOne (known c formed) (forms c formed) typed
  pub becomes : IsProgramOf formed.types formed.members c.texts typed program

-- The same of a component, its spawned threads rewritten.
pub record IsAcceptedComponentInOne (c : Component) (program : Program) : Type 0 where
  pub rewritten : Component
  pub becomes : IsRewritten c rewritten
  pub keeps : IsAcceptedTreeInOne rewritten program

-- The same of a token list.
pub record IsAcceptedInOne (tokens : Tokens) (program : Program) : Type 0 where
  pub component : Component
  pub is : IsComponent tokens component
  pub keeps : IsAcceptedComponentInOne component program

-- ---- and now

-- A component that keeps the rules where no call is widened keeps them, with the same program.
abbrev pub TreeIsKept : Type 0
TreeIsKept = (c : Component) (program : Program) → IsAcceptedTreeInOne c program
    → IsAcceptedTree c program

-- A component that edition 1 accepts is accepted, with the same program.
abbrev pub ComponentIsKept : Type 0
ComponentIsKept = (c : Component) (program : Program) → IsAcceptedComponentInOne c program
    → IsAcceptedComponent c program

-- Tokens that edition 1 accepts are accepted, with the same program. So a file is, whose tokens
-- they are.
abbrev pub TokensAreKept : Type 0
TokensAreKept = (tokens : Tokens) (program : Program) → IsAcceptedInOne tokens program
    → IsAccepted tokens program
