-- Chapter "The machine with threads": each run of a component with spawned threads is one of the
-- machine with threads.
use Rattle.std.specs.Prelude.{◌≡◌, List}
use Rattle.fort_core.specs.declared.pick.Pick.{Pick}
use Rattle.fort_core.specs.declared.program.Program.{Program}
use Rattle.fort_core.specs.declared.term.Term.{Term}
use Rattle.fort_core.specs.declared.term.Term as term
use Rattle.fort_core.specs.declared.value.Value.{Value}
use Rattle.fort_machine.specs.Acts.{unit}
use Rattle.fort_machine.specs.Effects.{Effect}
use Rattle.fort_machine.specs.Ends.{throw_of}
use Rattle.fort_machine.specs.Journals as machine
use Rattle.fort_threads.specs.Known.{Known}
use Rattle.fort_threads.specs.Machine.{Event, IsRun, HaveEnded}
use Rattle.fort_threads.specs.Threads.{Thread}
use Rattle.fort_threads_law_servers.specs.Prelude.{Names}
use Rattle.fort_threads_law_servers.specs.Roots.{Start, Starts}
use Rattle.fort_threads_law_private.specs.Grounds.{Ground}
use Rattle.fort_threads_law_worlds.specs.Known.{Own}
use Rattle.fort_threads_law_runs.specs.Premises.{IsThreaded}
use Rattle.fort_threads_law_whole.specs.Early.{IsBeginning}

-- A run of the machine with threads that does what a run of the machine does, which came to a term:
-- it prints the same; and where that came to its end, so did all threads: thread 0 at a value where
-- the run is completed, and at the throw that nothing caught.
pub record IsThreadedRun (p : Program) (k : Known) (t : Term) (d : Effect) : Type 0 where
  pub events : List Event
  pub later : List Thread
  pub effect : Effect
  pub is_run : IsRun p k events later effect
  pub same_output : effect.output ≡ d.output
  pub completed : t ≡ term.Value unit → (v : Value) × HaveEnded later (term.Value v)
  pub uncaught : (v : Value) → t ≡ throw_of v → HaveEnded later (throw_of v)

-- Each run of a program with spawned threads is one of the machine with threads.
abbrev pub EachRunIsThreaded : Type 0
EachRunIsThreaded = (p : Program) (n : Names) (m : Start) (o : Own) (k : Known) (g : Ground)
    → IsThreaded p n m o k g → IsBeginning p n m k g → Starts p n m
    → (picks : List Pick) (t : Term) (d : Effect) → machine.IsRun p picks t d
    → IsThreadedRun p k t d
