-- Chapter "The machine with threads": the root's machine, and the threads of the machine with
-- threads.
use Rattle.std.specs.Prelude.{◌≡◌, ℕ, ◌+◌, ◌<◌, true, List, [], ◌∷◌, ◌++◌, length, Option, Some, None, ◌⊎◌}
use Rattle.fort_core.specs.declared.program.Program.{Program}
use Rattle.fort_core.specs.declared.term.Term.{Term}
use Rattle.fort_core.specs.declared.value.Value.{Value}
use Rattle.fort_machine.specs.Effects.{Store, Effect, afterwards}
use Rattle.fort_machine.specs.Journals.{MakesWithinBounds}
use Rattle.fort_machine.specs.Parts.{IsOneOf}
use Rattle.fort_threads.specs.Known.{Known}
use Rattle.fort_threads.specs.Machine.{Event, Goes}
use Rattle.fort_threads.specs.Objects.{objects, NoneTwice}
use Rattle.fort_threads.specs.Threads.{Paths, Phase, new, going, Thread, thread}
use Rattle.fort_threads_law_servers.specs.Prelude.{Names}
use Rattle.fort_threads_law_servers.specs.Stages.{Stage}
use Rattle.fort_threads_law_servers.specs.Roots.{Start}
use Rattle.fort_threads_law_private.specs.Grounds.{Ground, Grows}
use Rattle.fort_threads_law_worlds.specs.Worlds.{World, of_prelude, ground_of}
use Rattle.fort_threads_law_worlds.specs.Known.{Own}
use Rattle.fort_threads_law_worlds.specs.Stores.{AreStores}
use Rattle.fort_threads_law_trees.specs.Leaves.{Leaf, waiting, running, all_held, owes, owed_in, free_in, IsCalm}
use Rattle.fort_threads_law_whole.specs.Lists.{IsAt}
use Rattle.fort_threads_law_whole.specs.Servers.{IsRunAs, AllServeOne, IsFirst, IsNew}

abbrev pub AllCalm : List Leaf → Type 0
AllCalm [] = Unit {0}
AllCalm (x ∷ xs) = IsCalm x.stage × AllCalm xs

-- While all goes on: `go'` with the first object at a stage, these servers, and as many that are yet
-- to be called. Each thread that was spawned stands in the queue or at a server until it is over, and
-- at one alone; `open'` has how many are in the queue or at servers that have not counted down yet;
-- and while some thread has not ended, as many servers are free as there are, without those that took
-- a thread.
pub record GoAlike (p : Program) (n : Names) (m : Start) (o : Own) (g : Ground) (w : World)
    (first : ℕ) (stage : Stage) (servers : List Leaf) (rest : ℕ) (now : List Thread)
    (s t : Store) : Type 0 where
  pub grown : Grows g (ground_of w)
  pub stores : AreStores p n m w now s t
  pub phase : Phase
  pub others : List Thread
  pub are_all : now ≡ thread None phase ∷ others
  pub is_first : IsFirst p n m o w s first phase stage
  pub first_lasts : (place : ℕ) → place < 4
      → (w.lasts (first + place) ≡ true) × ((v : Value) × (s (first + place) ≡ Some v))
  pub calm : IsCalm stage × AllCalm servers
  pub serve : AllServeOne p n m o w now s servers
  pub queue_new : (l : ℕ) → IsOneOf l w.queue → IsNew now l
  pub held_once : NoneTwice (w.queue ++ all_held servers)
  pub objects_apart : NoneTwice (objects now)
  pub new_ones : (number l : ℕ) (f : Value) → IsAt number (thread (Some l) (new f)) now
      → IsOneOf l w.queue ⊎ ((x : Leaf) × IsOneOf x servers × IsOneOf l (waiting x.stage))
  pub going_ones : (number l : ℕ) (v : Term) (asked : Paths)
      → IsAt number (thread (Some l) (going v asked)) now
      → (x : Leaf) × IsOneOf x servers × IsOneOf l (running x.stage)
      × IsRunAs p n m o w number asked v x.stage
  pub no_other_first : (number : ℕ) (other : Phase) → IsAt number (thread None other) now
      → number ≡ 0
  pub owed : w.unended ≡ owes stage + (length w.queue + owed_in servers)
  pub free : (w.unended ≡ 0) ⊎ (free_in servers + rest + w.spawned ≡ 64 + length w.queue)

-- By events the machine with threads goes on to where all goes on alike again, behind what the machine
-- did; and it prints the same.
pub record GoesOnAlike (p : Program) (n : Names) (m : Start) (o : Own) (k : Known) (g : Ground)
    (first : ℕ) (stage : Stage) (servers : List Leaf) (rest : ℕ) (now : List Thread)
    (s t : Store) (d : Effect) : Type 0 where
  pub world : World
  pub events : List Event
  pub later : List Thread
  pub effect : Effect
  pub goes : Goes p k now t events later effect
  pub bounded : MakesWithinBounds effect
  pub same_output : effect.output ≡ d.output
  pub alike : GoAlike p n m o g world first stage servers rest later (afterwards d s)
      (afterwards effect t)
