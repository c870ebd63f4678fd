-- Chapter "The machine with threads": a pick within a call of the prelude, as what the machine
-- with threads does there.
use Rattle.std.specs.Prelude.{◌≡◌, ℕ, List, [], ◌∷◌, ◌++◌, ◌⊎◌}
use Rattle.fort_core.specs.declared.program.Program.{Program}
use Rattle.fort_core.specs.declared.term.Term.{Term}
use Rattle.fort_core.specs.declared.term.Term as term
use Rattle.fort_core.specs.declared.value.Value.{Value}
use Rattle.fort_machine.specs.Effects.{Store, Effect, idle, FitsAll, afterwards}
use Rattle.fort_machine.specs.Journals.{MakesWithinBounds}
use Rattle.fort_threads.specs.Known.{Known}
use Rattle.fort_threads.specs.Moves.{OwnStep}
use Rattle.fort_threads.specs.Threads.{Paths, Thread, Done}
use Rattle.fort_threads_law_servers.specs.Prelude.{Names}
use Rattle.fort_threads_law_servers.specs.Roots.{Start}
use Rattle.fort_threads_law_private.specs.Private.{PrivateValue}
use Rattle.fort_threads_law_worlds.specs.Worlds.{Spot, World, FollowsAt, ground_of}
use Rattle.fort_threads_law_worlds.specs.Known.{Own}
use Rattle.fort_threads_law_worlds.specs.Stores.{AreStores}
use Rattle.fort_threads_law_worlds.specs.Effects.{DoAlike}
use Rattle.fort_threads_law_worlds.specs.Queues.{HasQueued}
use Rattle.fort_threads_law_matches.specs.Matches.{Matches}
use Rattle.fort_threads_law_matches.specs.Ways.{IsUnderWay, IsAhead}

-- A call is under way at a spot, or the machine with threads is ahead there.
abbrev pub IsCall : Program → Names → Start → Own → World → Spot → Term → Term → Type 0
IsCall p n m o w spot u v = IsUnderWay p n m o w spot u v
    ⊎ ((x : Value) × IsAhead n w u x × (v ≡ term.Value x) × PrivateValue p n m (ground_of w) x)

-- A pick within a call led to a term: the machine with threads does nothing, and the terms match
-- still; or it takes the step of the call's own form, and the terms match again.
pub data AnswersCall (p : Program) (n : Names) (m : Start) (o : Own) (k : Known) (w : World)
    (here : Spot) (asked : Paths) (path : List ℕ) (standing : List Thread) (s t : Store)
    (v later : Term) (d : Effect) : Type 0 where
  silently : (x : World) → FollowsAt (path ∷ here) w x → Matches p n m o x here asked path later v
      → DoAlike w x d idle → AreStores p n m x standing (afterwards d s) t → HasQueued w x []
      → AnswersCall p n m o k w here asked path standing s t v later d
  by_its_step : (x : World) (loc : ℕ) (b : Term) (done : Done) → FollowsAt (path ∷ here) w x
      → OwnStep p k standing loc v b done → FitsAll done.effect t
      → Matches p n m o x here asked path later b → DoAlike w x d done.effect
      → AreStores p n m x (standing ++ done.added) (afterwards d s) (afterwards done.effect t)
      → HasQueued w x done.added → MakesWithinBounds done.effect
      → AnswersCall p n m o k w here asked path standing s t v later d
