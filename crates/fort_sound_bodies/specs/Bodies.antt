-- The law of one body: where it has a type by the rules, its term has the written result, with the
-- parameters of its declaration as its variables.
use Rattle.std.specs.Prelude.{◌≡◌, ◌≤◌, ℕ, zero, suc, List, [], ◌∷◌, length, map, Option, Some, None}
use Rattle.fort_base.specs.declared.ids.TypeId.{TypeId}
use Rattle.fort_base.specs.declared.ty.Ty.{Ty}
use Rattle.fort_base.specs.declared.ty.Ty.TheVariants.{Named}
use Rattle.fort_form.specs.declared.component.BodyForm.{BodyForm}
use Rattle.fort_form_typed.specs.declared.typed_form.TypedForm.{TypedForm}
use Rattle.fort_core.specs.declared.program.Program.{Program}
use Rattle.fort_sound_typed.specs.Envs.{none, binds}
use Rattle.fort_sound_typed.specs.Typing as typed
use Rattle.fort_sound_typed.specs.Sound.{opening, numbered}
use Rattle.fort_typing_known.specs.Known.{Knows}
use Rattle.fort_typing_rules.specs.Types.{parameter_type}
use Rattle.fort_typing_rules.specs.Components.{HasBody, typed_body}
use Rattle.fort_typing_law_rules.specs.Deciding.{IsAccepted}
use Rattle.fort_typing_law_exact.specs.Ready.{IsBodyReady}
use Rattle.fort_elab_meaning.specs.Parts.{Given}
use Rattle.fort_elab_meaning.specs.Bodies.{body_made}
use Rattle.fort_sound_forms.specs.Figures.{HasFigures}
use Rattle.fort_sound_forms.specs.Suits.{Suits}

-- a type among others, at a position
abbrev pub inserted : ℕ → Ty → List Ty → List Ty
inserted zero T ts = T ∷ ts
inserted (suc n) T [] = T ∷ []
inserted (suc n) T (t ∷ ts) = t ∷ inserted n T ts

-- The parameters of a body's declaration have these types: of a function those that are written; of
-- a method they have the enclosing type among them, where the receiver or `self` stands.
abbrev pub Takes : Option TypeId → Option ℕ → List Ty → List Ty → Type 0
Takes None None named types = types ≡ named
Takes (Some o) (Some r) named types = (r ≤ length named) × (types ≡ inserted r (Named o) named)
Takes _ _ named types = ⊥

-- Of an accepted component and a program that suits it: where a body has a type by the rules, its
-- term has the written result, over the types of the opening store, with the parameters of its
-- declaration as the variables from 0 on.
abbrev pub BodiesHaveTypes : Type 0
BodiesHaveTypes = (k : Knows) → IsAccepted k → (g : Given) (p : Program) → Suits k g p
    → (b : BodyForm) → IsBodyReady k b → HasFigures b.body → (t : TypedForm) → HasBody k b t
    → (types : List Ty) → Takes b.owner b.receiver (map parameter_type b.parameters) types
    → (next : ℕ)
    → typed.Has p (opening p) (binds (numbered 0 types) none) (let m =
    body_made g next (typed_body b t) in m.term) b.result
