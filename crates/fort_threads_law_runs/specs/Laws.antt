-- Chapter "The machine with threads": runs of attempts' machines.
use Rattle.std.specs.Prelude.{ℕ, true, false, List, [], ◌∷◌}
use Rattle.fort_core.specs.declared.pick.Pick.{Pick}
use Rattle.fort_core.specs.declared.program.Program.{Program}
use Rattle.fort_core.specs.declared.term.Term.{Term}
use Rattle.fort_machine.specs.Attempts.{Ended, goes}
use Rattle.fort_machine.specs.Effects.{Store, Effect}
use Rattle.fort_machine.specs.Frames.{Frame, plug}
use Rattle.fort_machine.specs.Journals.{MakesWithinBounds}
use Rattle.fort_machine.specs.Proper.{Reached}
use Rattle.fort_machine.specs.Runs as machine
use Rattle.fort_threads.specs.Known.{Known}
use Rattle.fort_threads.specs.Threads.{Paths, Thread}
use Rattle.fort_threads_law_servers.specs.Prelude.{Names}
use Rattle.fort_threads_law_servers.specs.Roots.{Start}
use Rattle.fort_threads_law_private.specs.Grounds.{Ground, Grows}
use Rattle.fort_threads_law_worlds.specs.Worlds.{Spot, World, ground_of}
use Rattle.fort_threads_law_worlds.specs.Known.{Own}
use Rattle.fort_threads_law_worlds.specs.Stores.{AreStores}
use Rattle.fort_threads_law_matches.specs.Matches.{Matches}
use Rattle.fort_threads_law_runs.specs.Premises.{ThrowsFinely, IsThreaded}
use Rattle.fort_threads_law_runs.specs.Runs.{GoesAlike}
use Rattle.fort_threads_law_runs.specs.Threads.{thread_spot, MayGo, ThreadGoesAlike}

-- So each run of an attempt's machine is, from where it comes to, from terms that match, on stores
-- that go together.
abbrev pub AttemptsGoAlike : Type 0
AttemptsGoAlike = (p : Program) (n : Names) (m : Start) (o : Own) (k : Known) (g : Ground)
    → IsThreaded p n m o k g
    → (w : World) (here : Spot) (standing : List Thread) (asked : Paths) (s t : Store)
    (picks : List Pick) (u v : Term) (r : Ended) (d : Effect)
    → Grows g (ground_of w) → AreStores p n m w standing s t
    → Matches p n m o w here asked [] u v → Reached p true s u
    → machine.Runs p true true s picks u r d → MakesWithinBounds d
    → GoesAlike p n m o k w here standing asked s t picks v r d

-- And so is each pick of a thread of the root's machine, which stands somewhere in its term, where
-- it may go.
abbrev pub ThreadsGoAlike : Type 0
ThreadsGoAlike = (p : Program) (n : Names) (m : Start) (o : Own) (k : Known) (g : Ground)
    → IsThreaded p n m o k g
    → (w : World) (number : ℕ) (beside standing : List Thread) (asked : Paths) (s t : Store)
    (pick : Pick) (u v later : Term) (d : Effect) (round : List Frame)
    → Grows g (ground_of w) → AreStores p n m w standing s t
    → Matches p n m o w (thread_spot number) asked [] u v
    → machine.Runs p false false s (pick ∷ []) u (goes later) d → MakesWithinBounds d
    → Reached p false s (plug round u) → ThrowsFinely n m o later
    → MayGo p k beside standing s t u pick
    → ThreadGoesAlike p n m o k w (thread_spot number) beside standing asked s t pick v later d
