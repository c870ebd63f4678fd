-- Chapter "The machine with threads": a run of an attempt's machine, as one of the machine with
-- threads.
use Rattle.std.specs.Prelude.{◌≡◌, ℕ, true, false, List, [], ◌++◌}
use Rattle.fort_core.specs.declared.pick.Pick.{Pick}
use Rattle.fort_core.specs.declared.program.Program.{Program}
use Rattle.fort_core.specs.declared.term.Term.{Term}
use Rattle.fort_machine.specs.Attempts.{Ended, goes, aborts}
use Rattle.fort_machine.specs.Effects.{Store, Effect, FitsAll, afterwards}
use Rattle.fort_machine.specs.Journals.{MakesWithinBounds}
use Rattle.fort_threads.specs.Known.{Known}
use Rattle.fort_threads.specs.Threads.{Paths, Thread, Done}
use Rattle.fort_threads.specs.Runs.{Runs}
use Rattle.fort_threads_law_servers.specs.Prelude.{Names}
use Rattle.fort_threads_law_servers.specs.Roots.{Start}
use Rattle.fort_threads_law_private.specs.Private.{Private}
use Rattle.fort_threads_law_worlds.specs.Worlds.{Spot, World, FollowsAt, ground_of}
use Rattle.fort_threads_law_worlds.specs.Known.{Own}
use Rattle.fort_threads_law_worlds.specs.Stores.{AreStores}
use Rattle.fort_threads_law_worlds.specs.Effects.{DoAlike, FindsOpen}
use Rattle.fort_threads_law_worlds.specs.Queues.{HasQueued}
use Rattle.fort_threads_law_matches.specs.Matches.{Matches}
use Rattle.fort_threads_law_runs.specs.Told.{Told}

-- Both machines end alike: at terms that match, or by an abort.
abbrev pub EndAlike : Program → Names → Start → Own → World → Spot → Paths → Ended → Ended → Type 0
EndAlike p n m o w here asked (goes u) (goes v) = Matches p n m o w here asked [] u v
EndAlike p n m o w here asked aborts aborts = Unit {0}
EndAlike p n m o w here asked r q = ⊥

-- A run of an attempt's machine from a term is one of the machine with threads from a term that
-- matches: it has these picks, ends alike, and does alike. Where the latter term left the prelude
-- alone and it came to no form of its own, the former found open locations alone.
pub record GoesAlike (p : Program) (n : Names) (m : Start) (o : Own) (k : Known) (w : World)
    (here : Spot) (standing : List Thread) (asked : Paths) (s t : Store) (picks : List Pick)
    (v : Term) (r : Ended) (d : Effect) : Type 0 where
  pub told : List Pick
  pub are_told : Told picks told
  pub ended : Ended
  pub done : Done
  pub runs : Runs p k true [] standing asked t told v ended done
  pub later : World
  pub follows : FollowsAt here w later
  pub asked_later : Paths
  pub end_alike : EndAlike p n m o later here asked_later r ended
  pub do_alike : DoAlike w later d done.effect
  pub stores : AreStores p n m later (standing ++ done.added) (afterwards d s)
      (afterwards done.effect t)
  pub queued : HasQueued w later done.added
  pub bounded : MakesWithinBounds done.effect
  pub finds : Private p n m (ground_of w) v → done.came ≡ false → FindsOpen m w d
