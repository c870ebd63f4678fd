-- One pick of a thread, as what the machine with threads does.
use Rattle.std.proofs.Common.{◌≡◌, ℕ, Bool, true, false, List, [], ◌∷◌, ◌++◌}
use Rattle.fort_core.specs.declared.pick.Pick.{Pick}
use Rattle.fort_core.specs.declared.program.Program.{Program}
use Rattle.fort_core.specs.declared.term.Term.{Term}
use Rattle.fort_machine.specs.Attempts.{Ended}
use Rattle.fort_machine.specs.Effects.{Store, Effect, idle, afterwards}
use Rattle.fort_machine.specs.Journals.{MakesWithinBounds}
use Rattle.fort_threads.specs.Known.{Known}
use Rattle.fort_threads.specs.Runs as threads
use Rattle.fort_threads.specs.Threads.{Paths, Thread, Done, both_done, noted_by}
use Rattle.fort_threads_law_servers.specs.Prelude.{Names}
use Rattle.fort_threads_law_servers.specs.Roots.{Start}
use Rattle.fort_threads_law_private.specs.Private.{Private}
use Rattle.fort_threads_law_worlds.specs.Worlds.{Spot, World, FollowsAt, ground_of}
use Rattle.fort_threads_law_worlds.specs.Known.{Own}
use Rattle.fort_threads_law_worlds.specs.Stores.{AreStores}
use Rattle.fort_threads_law_worlds.specs.Effects.{DoAlike, FindsOpen}
use Rattle.fort_threads_law_worlds.specs.Queues.{HasQueued}
use Rattle.fort_threads_law_matches.specs.Matches.{Matches}
use Rattle.fort_threads_law_runs.specs.Told.{Told}

-- One pick: the machine with threads does nothing, or takes a pick of its own and goes on behind
-- it.
-- Where its term left the prelude alone and it came to no form of its own, the term does so still,
-- and the machine found what is open.
pub data PickAlike (p : Program) (n : Names) (m : Start) (o : Own) (k : Known) (inner : Bool)
    (w : World) (here : Spot) (beside standing : List Thread) (asked : Paths) (s t : Store)
    (pick : Pick) (v later : Term) (d : Effect) : Type 0 where
  nothing : (x : World) → FollowsAt here w x → Matches p n m o x here asked [] later v
      → DoAlike w x d idle → AreStores p n m x standing (afterwards d s) t → HasQueued w x []
      → (Private p n m (ground_of w) v → FindsOpen m w d)
      → PickAlike p n m o k inner w here beside standing asked s t pick v later d
  takes : (x : World) (other : Pick) (next : Term) (done : Done) (asked_later : Paths)
      → FollowsAt here w x → asked_later ≡ noted_by other done.came asked
      → ((picks told : List Pick) → Told picks told → Told (pick ∷ picks) (other ∷ told))
      → ((rest : List Pick) (r : Ended) (done2 : Done)
      → threads.Runs p k inner beside (standing ++ done.added) asked_later
      (afterwards done.effect t) rest
      next r done2
      → threads.Runs p k inner beside standing asked t (other ∷ rest) v r (both_done done done2))
      → Matches p n m o x here asked_later [] later next → DoAlike w x d done.effect
      → AreStores p n m x (standing ++ done.added) (afterwards d s) (afterwards done.effect t)
      → HasQueued w x done.added → MakesWithinBounds done.effect
      → (Private p n m (ground_of w) v → done.came ≡ false
      → Private p n m (ground_of x) next × FindsOpen m w d)
      → PickAlike p n m o k inner w here beside standing asked s t pick v later d
