-- Chapter "The machine with threads": a pick of a thread of the root's machine, as one of the
-- machine
-- with threads.
use Rattle.std.specs.Prelude.{◌≡◌, ℕ, false, List, [], ◌∷◌, ◌++◌, ◌⊎◌}
use Rattle.fort_core.specs.declared.form.Mode.{Mode}
use Rattle.fort_core.specs.declared.pick.Pick.{Pick, Attempt}
use Rattle.fort_core.specs.declared.program.Program.{Program}
use Rattle.fort_core.specs.declared.term.Term.{Term}
use Rattle.fort_machine.specs.Attempts.{goes, Form, Sleeps}
use Rattle.fort_machine.specs.Attempts as machine
use Rattle.fort_machine.specs.Effects.{Store, Effect, idle, afterwards}
use Rattle.fort_machine.specs.Frames.{Frame, plug, road}
use Rattle.fort_machine.specs.Journals.{MakesWithinBounds}
use Rattle.fort_machine.specs.Parts.{IsOneOf}
use Rattle.fort_machine.specs.Runs.{path_to}
use Rattle.fort_threads.specs.Awake.{Stirs}
use Rattle.fort_threads.specs.Known.{Known}
use Rattle.fort_threads.specs.Runs.{Runs}
use Rattle.fort_threads.specs.Threads.{Paths, Thread, Done, noted_by}
use Rattle.fort_threads_law_servers.specs.Prelude.{Names}
use Rattle.fort_threads_law_servers.specs.Roots.{Start}
use Rattle.fort_threads_law_worlds.specs.Worlds.{Spot, World, FollowsAt}
use Rattle.fort_threads_law_worlds.specs.Known.{Own}
use Rattle.fort_threads_law_worlds.specs.Stores.{AreStores}
use Rattle.fort_threads_law_worlds.specs.Effects.{DoAlike}
use Rattle.fort_threads_law_worlds.specs.Queues.{HasQueued}
use Rattle.fort_threads_law_matches.specs.Matches.{Matches}
use Rattle.fort_threads_law_runs.specs.Told.{Told}

-- The spot of the machine of a thread, by its number.
abbrev pub thread_spot : ℕ → Spot
thread_spot number = (number ∷ []) ∷ []

-- An attempt that is picked may be tried: its form doesn't sleep, or nobody else is awake, neither
-- in its own term nor in the threads beside it.
abbrev pub MayGo : Program → Known → List Thread → List Thread → Store → Store → Term → Pick
    → Type 0
MayGo p k beside standing s t u pick =
    (fs : List Frame) (a : Term) (mode : Mode) (body : Term) (within : List Pick)
    → u ≡ plug fs a → Form a mode body → pick ≡ Attempt (path_to fs) within
    → (Sleeps s a → ⊥)
    ⊎ (((path : List ℕ) → machine.Awake s u path → path ≡ road fs)
    × ((x : Thread) → IsOneOf x beside → Stirs p k t standing x.phase → ⊥))

-- What a pick of a thread is to the machine with threads, where both terms match: nothing, within
-- a
-- call of the prelude that is under way or ahead; or a pick of its own.
pub data ThreadGoesAlike (p : Program) (n : Names) (m : Start) (o : Own) (k : Known) (w : World)
    (here : Spot) (beside standing : List Thread) (asked : Paths) (s t : Store) (pick : Pick)
    (v later : Term) (d : Effect) : Type 0 where
  nothing : (x : World) → FollowsAt here w x → Matches p n m o x here asked [] later v
      → DoAlike w x d idle → AreStores p n m x standing (afterwards d s) t → HasQueued w x []
      → ThreadGoesAlike p n m o k w here beside standing asked s t pick v later d
  takes : (x : World) (other : Pick) (next : Term) (done : Done) → FollowsAt here w x
      → Told (pick ∷ []) (other ∷ [])
      → Runs p k false beside standing asked t (other ∷ []) v (goes next) done
      → Matches p n m o x here (noted_by other done.came asked) [] later next
      → DoAlike w x d done.effect
      → AreStores p n m x (standing ++ done.added) (afterwards d s) (afterwards done.effect t)
      → HasQueued w x done.added → MakesWithinBounds done.effect
      → ThreadGoesAlike p n m o k w here beside standing asked s t pick v later d
