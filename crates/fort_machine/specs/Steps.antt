-- Chapter "Steps and costs": a step of one form, with what it does to any store. The code looks
-- into its store first; here a step says what it reads, and a store suits it or doesn't.
use Rattle.std.specs.Prelude.{◌≡◌, ℕ, Bool, false, List, [], ◌∷◌, Some}
use Rattle.fort_base.specs.declared.ids.DeclId.{DeclId}
use Rattle.fort_base.specs.declared.ids.SetId.{SetId}
use Rattle.fort_core.specs.declared.program.CoreDecl.{CoreDecl}
use Rattle.fort_core.specs.declared.program.Program.{Program}
use Rattle.fort_core.specs.declared.term.Term.{Term}
use Rattle.fort_core.specs.declared.term.Term as term
use Rattle.fort_core.specs.declared.value.Value.{Value}
use Rattle.fort_machine.specs.Effects.{Effect, printed, paid, reading, writing, making}
use Rattle.fort_machine.specs.Ends.{throw_of}
use Rattle.fort_machine.specs.Acts.{Act, stuck, turns, enters, asks, sets, makes, calls, ends, unit, single}
use Rattle.fort_machine.specs.Forms.{act}
use Rattle.fort_machine.specs.Calls.{Dispatches, by_body}
use Rattle.fort_machine.specs.Marked.{Bare}

-- What a form does: its row of the table, and for a call what the declaration does that it runs.
pub data Acts (p : Program) (a : Term) (x : Act) : Type 0 where
  by_itself : act p a ≡ x → Acts p a x
  by_call : {set : SetId} {values : List Value} {d : DeclId} {decl : CoreDecl}
      → act p a ≡ calls set values → Dispatches p set values d decl → by_body p decl.body values ≡ x
      → Acts p a x

-- An object or an array without fields or elements has one location, that holds `()`.
abbrev pub or_unit : List Value → List Value
or_unit [] = unit ∷ []
or_unit (v ∷ vs) = v ∷ vs

-- An act in a machine, an attempt's (at `true`) or the root's: the first fresh location where it
-- makes some, else 0; what the form becomes; what is done.
abbrev pub Does : Program → Bool → ℕ → Act → Term → Effect → Type 0
Does p inner loc (turns next output cost) b d = (loc ≡ 0) × (b ≡ next) × (d ≡ printed output cost)
Does p inner loc (enters body next) b d = Bare body × (loc ≡ 0) × (b ≡ next) × (d ≡ paid 1)
Does p inner loc (asks l next) b d = (v : Value) × (loc ≡ 0) × (b ≡ next v) × (d ≡ reading l v)
Does p inner loc (sets l v) b d = (loc ≡ 0) × (b ≡ term.Value unit) × (d ≡ writing l v)
Does p inner loc (makes values next cost) b d = (b ≡ next loc)
    × (d ≡ making loc (or_unit values) cost)
Does p inner loc ends b d = (v : Value) × (inner ≡ false) × (loc ≡ 0)
    × (single p p.built_in.abort_outside ≡ Some v) × (b ≡ throw_of v) × (d ≡ paid 1)
Does p inner loc (calls set values) b d = ⊥
Does p inner loc stuck b d = ⊥

-- A form steps to another one.
pub data Local (p : Program) (inner : Bool) (loc : ℕ) (a b : Term) (d : Effect) : Type 0 where
  steps : (x : Act) → Acts p a x → Does p inner loc x b d → Local p inner loc a b d
