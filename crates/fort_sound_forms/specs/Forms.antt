-- The law: a form that has a type by the rules becomes a term that has this type as a term of the
-- program.
use Rattle.std.specs.Prelude.{◌≡◌, ◌<◌, ℕ, Bool, true, false, List, Some}
use Rattle.fort_base.specs.declared.ids.NameId.{NameId}
use Rattle.fort_base.specs.declared.ids.TypeId.{TypeId}
use Rattle.fort_base.specs.declared.ty.Ty.{Ty}
use Rattle.fort_base.specs.declared.ty.Ty.TheVariants.{Named}
use Rattle.fort_scope.specs.declared.binding.Binding.{Binding}
use Rattle.fort_form.specs.declared.form.Form.{Form}
use Rattle.fort_form_typed.specs.declared.typed_form.TypedForm.{TypedForm}
use Rattle.fort_core.specs.declared.program.Program.{Program}
use Rattle.fort_sound_typed.specs.Envs.{Sort, fixed, cell, Env}
use Rattle.fort_sound_typed.specs.Typing as typed
use Rattle.fort_sound_typed.specs.Sound.{opening}
use Rattle.fort_typing_known.specs.Known.{Knows}
use Rattle.fort_typing_known.specs.Names.{bound}
use Rattle.fort_typing_rules.specs.Types.{type_of}
use Rattle.fort_typing_rules.specs.Calls.{Calls}
use Rattle.fort_typing_rules.specs.Typing.{Has}
use Rattle.fort_typing_law_rules.specs.Deciding.{IsAccepted}
use Rattle.fort_typing_law_rules.specs.Written.{IsWritten, AreBound}
use Rattle.fort_elab_meaning.specs.declared.counter.Counter.{Counter}
use Rattle.fort_elab_meaning.specs.Making.{Scope, number_of}
use Rattle.fort_elab_meaning.specs.Parts.{Given}
use Rattle.fort_elab_meaning.specs.Translated.{translated}
use Rattle.fort_sound_forms.specs.Figures.{HasFigures}
use Rattle.fort_sound_forms.specs.Suits.{Suits}

-- What a variable is by its binding: a mutable one is a location that holds the type.
abbrev pub sort : Bool → Ty → Sort
sort true ty = cell ty
sort false ty = fixed ty

-- The types of variables go with the bindings, by the numbers that the names have: each name's
-- variable has its binding's type, the receiver has the enclosing type, and the next numbers from
-- one on are free.
pub record Agrees (k : Knows) (bs : List Binding) (s : Scope) (next : ℕ) (G : Env) : Type 0 where
  pub names : (name : NameId) (b : Binding) → bound bs name ≡ Some b
      → G (number_of s.names name) ≡ Some (sort b.mutable b.ty)
  pub receiver : (o : TypeId) → k.facts.owner ≡ Some o → G s.receiver ≡ Some (fixed (Named o))
  pub low : (z : ℕ) (B : Sort) → G z ≡ Some B → z < next

-- Of an accepted component and a program that suits it: where a form becomes a typed form by the
-- rules, the term of the typed form has its type, over the types of the opening store, wherever the
-- types of variables go with the bindings.
abbrev pub FormsHaveTypes : Type 0
FormsHaveTypes = (k : Knows) → IsAccepted k → (g : Given) (p : Program) → Suits k g p
    → (bs : List Binding) → AreBound k bs
    → (e : Form) → IsWritten k e → HasFigures e → (t : TypedForm) → Has k (Calls k) bs e t
    → (s : Scope) (c : Counter) (G : Env) → Agrees k bs s c.variable G
    → typed.Has p (opening p) G (let m = translated g t s c in m.term) (type_of t)
