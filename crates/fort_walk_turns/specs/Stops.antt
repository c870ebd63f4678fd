-- Chapter "Runs": a machine at a term from which no pick may come next. That no machine of an
-- accepted program comes to one is said in the chapter "Nothing is stuck" of docs/SOUNDNESS.md.
use Rattle.std.specs.Prelude.{◌≡◌, ℕ, Bool, true, false, List, None, ◌⊎◌}
use Rattle.fort_core.specs.declared.form.Mode.{Mode}
use Rattle.fort_core.specs.declared.program.Program.{Program}
use Rattle.fort_core.specs.declared.term.Term.{Term}
use Rattle.fort_core.specs.declared.term.Term as term
use Rattle.fort_core.specs.declared.value.Value.{Value}
use Rattle.fort_machine.specs.Effects.{Store, Effect, FitsAll}
use Rattle.fort_machine.specs.Ends.{Finished, throw_of}
use Rattle.fort_machine.specs.Frames.{Frame, plug, passed}
use Rattle.fort_machine.specs.Acts.{ends, single, unit}
use Rattle.fort_machine.specs.Marked.{Bare}
use Rattle.fort_machine.specs.Steps.{Acts, Local}
use Rattle.fort_machine.specs.Attempts.{Form, MayTry}
use Rattle.fort_machine.specs.Proper.{Reached}

-- What a thread may do next, the rule on sleeping forms kept: a legal step; `abort()` in an
-- attempt; an attempt of an atomic form that may be tried.
pub data MayGo (p : Program) (inner : Bool) (s : Store) (t : Term) (fs : List Frame)
    (a : Term) : Type 0 where
  steps_on : (loc : ℕ) (b : Term) (d : Effect) → Local p inner loc a b d → FitsAll d s
      → MayGo p inner s t fs a
  aborts_here : inner ≡ true → Acts p a ends → MayGo p inner s t fs a
  tries : (m : Mode) (body : Term) → Form a m body → Bare body → MayTry true s t fs a
      → MayGo p inner s t fs a

-- No thread of a term may go on.
abbrev pub NobodyMayGo : Program → Bool → Store → Term → Type 0
NobodyMayGo p inner s t = (fs : List Frame) (a : Term) → t ≡ plug fs a → passed fs a ≡ false
    → MayGo p inner s t fs a → ⊥

-- Where a machine is at its end: an attempt's at a value or a throw, the root's at `()` or a throw.
abbrev pub IsAtEnd : Bool → Term → Type 0
IsAtEnd true t = Finished t
IsAtEnd false t = (t ≡ term.Value unit) ⊎ ((v : Value) × (t ≡ throw_of v))

-- A machine of the program, the root's or an attempt's, has come to a term that isn't its end, and
-- no thread of it may go on.
pub record IsStuck (p : Program) : Type 0 where
  pub inner : Bool
  pub store : Store
  pub term : Term
  pub reached : Reached p inner store term
  pub no_end : IsAtEnd inner term → ⊥
  pub nobody : NobodyMayGo p inner store term

-- An attempt of the program has come to a form whose step is `abort()`, and the program has no
-- single object to throw.
pub record CannotGiveUp (p : Program) : Type 0 where
  pub store : Store
  pub term : Term
  pub reached : Reached p true store term
  pub frames : List Frame
  pub part : Term
  pub is_term : term ≡ plug frames part
  pub acts : Acts p part ends
  pub no_object : single p p.built_in.try_atomic_failure ≡ None

-- Why a walk may stop short of the end of a run. No program of an accepted component has such a
-- run.
pub data StopsShort (p : Program) : Type 0 where
  stuck : IsStuck p → StopsShort p
  cannot_give_up : CannotGiveUp p → StopsShort p
