-- Chapter "The machine with threads": what is thrown in a run of an accepted program is an
-- exception, as the laws on runs with threads take it.
use Rattle.std.specs.Prelude.{◌≡◌, Bool, true, List}
use Rattle.fort_core.specs.declared.program.Program.{Program}
use Rattle.fort_core.specs.declared.term.Term.{Term}
use Rattle.fort_core.specs.declared.value.Value.{Value}
use Rattle.fort_machine.specs.Effects.{Store}
use Rattle.fort_machine.specs.Ends.{throw_of}
use Rattle.fort_machine.specs.Frames.{Frame, plug}
use Rattle.fort_machine.specs.Proper.{Reached}
use Rattle.fort_machine.specs.Types.{has_type}
use Rattle.fort_sound_typed.specs.Sound.{Sound}
use Rattle.fort_sound_typed.specs.Goes.{Complete}
use Rattle.fort_threads_law_servers.specs.Prelude.{Names}
use Rattle.fort_threads_law_servers.specs.Roots.{Start}
use Rattle.fort_threads_law_worlds.specs.Known.{Own}
use Rattle.fort_threads_law_runs.specs.Premises.{ThrowsFinely}
use Rattle.fort_threads_law_thrown.specs.Tables.{Tables}

-- In a program that is sound and complete, and has these tables: wherever a machine comes to,
-- nothing is thrown that isn't a value yet, but what may be. It is the premise `throws` of
-- `IsThreaded`.
abbrev pub EachThrowsFinely : Type 0
EachThrowsFinely = (p : Program) (n : Names) (m : Start) (o : Own) → Sound p → Complete p
    → Tables p n m o
    → (inner : Bool) (s : Store) (t : Term) → Reached p inner s t → ThrowsFinely n m o t

-- And each value that is thrown there has the type `Exception`. It is the premise `exceptions` of
-- `IsBeginning`.
abbrev pub ThrownAreExceptions : Type 0
ThrownAreExceptions = (p : Program) (n : Names) (m : Start) (o : Own) → Sound p → Complete p
    → Tables p n m o
    → (inner : Bool) (s : Store) (t : Term) → Reached p inner s t → (fs : List Frame) (v : Value)
    → t ≡ plug fs (throw_of v) → has_type p v n.exception ≡ true
