-- Chapter "Threads that are spawned" of docs/LANGUAGE.md: the terms of a component leave the
-- prelude alone, step by step.
use Rattle.std.specs.Prelude.{ℕ, Bool, List}
use Rattle.fort_base.specs.declared.ids.DeclId.{DeclId}
use Rattle.fort_core.specs.declared.program.Program.{Program}
use Rattle.fort_core.specs.declared.term.Term.{Term}
use Rattle.fort_core.specs.declared.value.Value.{Value}
use Rattle.fort_machine.specs.Effects.{Store, Effect, FitsAll, afterwards}
use Rattle.fort_machine.specs.Forms.{act}
use Rattle.fort_machine.specs.Parts.{IsOneOf}
use Rattle.fort_machine.specs.Steps.{Local}
use Rattle.fort_machine.specs.Written.{WrittenProgram}
use Rattle.fort_threads.specs.Known.{Known, known, Calls}
use Rattle.fort_threads_law_servers.specs.Prelude.{Names}
use Rattle.fort_threads_law_servers.specs.Roots.{Start}
use Rattle.fort_threads_law_private.specs.Grounds.{Ground, Grows}
use Rattle.fort_threads_law_private.specs.Private.{Private}
use Rattle.fort_threads_law_private.specs.Fine.{Fine, PrivateStore, StaysPrivate}
use Rattle.fort_threads_law_private.specs.Apart.{KeepsApart}

-- What a form does that leaves the prelude's own names alone is fine, on each ground to which that
-- has grown on which a program's runs begin.
abbrev pub ActsFinely : Type 0
ActsFinely = (p : Program) (n : Names) (m : Start) (k : Known) (first g : Ground)
    → KeepsApart p n m k first → Grows first g
    → (a : Term) → Private p n m g a → Fine p n m g (act p a)

-- Each step of such a form, but a call of `run`, `spawn'`, `wait`, `val` or `ready`, leads to one
-- that leaves them alone, and touches open locations alone; so does what stands there afterwards.
abbrev pub StepsPrivately : Type 0
StepsPrivately = (p : Program) (n : Names) (m : Start) (k : Known) (first g : Ground)
    → WrittenProgram p → KeepsApart p n m k first → Grows first g
    → (inner : Bool) (loc : ℕ) (s : Store) (a b : Term) (d : Effect)
    → Private p n m g a → PrivateStore p n m g s
    → ((c : DeclId) (values : List Value) → IsOneOf c (known k) → Calls p a c values → ⊥)
    → Local p inner loc a b d → FitsAll d s
    → StaysPrivate p n m g b d (afterwards d s)
