-- Chapter "The machine with threads": who is awake, and which atomic form may be tried.
use Rattle.std.specs.Prelude.{◌≡◌, ℕ, false, List, Some}
use Rattle.fort_core.specs.declared.program.Program.{Program}
use Rattle.fort_core.specs.declared.term.Term.{Term}
use Rattle.fort_machine.specs.Attempts.{Sleeps, Ready}
use Rattle.fort_machine.specs.Effects.{Store}
use Rattle.fort_machine.specs.Frames.{Frame, plug, road, passed}
use Rattle.fort_machine.specs.Parts.{IsOneOf}
use Rattle.fort_threads.specs.Known.{Known, Own, spawning, waiting, getting, asking, Outside}
use Rattle.fort_threads.specs.Threads.{Paths, Phase, new, going, over, Thread, end_of}

-- The thread at a location has ended.
abbrev pub HasEnded : List Thread → ℕ → Type 0
HasEnded standing l = (end : Term) × (end_of standing l ≡ Some end)

-- A form of its own may go on: that of `wait` or of `val` once its thread has ended.
abbrev pub MayGoOn : {p : Program} {k : Known} {a : Term} → List Thread → Own p k a → Type 0
MayGoOn standing (spawning f h) = Unit {0}
MayGoOn standing (waiting l h) = HasEnded standing l
MayGoOn standing (getting l h) = HasEnded standing l
MayGoOn standing (asking l h) = Unit {0}

-- Who is awake in a term: as in the machine, whoever is ready, isn't passed over and doesn't sleep,
-- and stands in no form of its own; and such a form itself, where it may go on.
pub data Awake (p : Program) (k : Known) (s : Store) (standing : List Thread) (t : Term)
    (path : List ℕ) : Type 0 where
  as_ever : (fs : List Frame) (a : Term) → t ≡ plug fs a → path ≡ road fs → passed fs a ≡ false
      → Outside p k fs a → (Own p k a → ⊥) → Ready a → (Sleeps s a → ⊥)
      → Awake p k s standing t path
  by_itself : (fs : List Frame) (a : Term) → t ≡ plug fs a → path ≡ road fs → passed fs a ≡ false
      → Outside p k fs a → (own : Own p k a) → MayGoOn standing own → Awake p k s standing t path

-- Somebody is awake in a thread. One that has not begun is awake itself.
abbrev pub Stirs : Program → Known → Store → List Thread → Phase → Type 0
Stirs p k s standing (new f) = Unit {0}
Stirs p k s standing (going t asked) = (path : List ℕ) × Awake p k s standing t path
Stirs p k s standing (over t) = ⊥

-- An atomic form at the end of frames may be tried where it doesn't sleep; at any time where its
-- last attempt came to a form of its own; or where nobody else of its machine is awake, neither in
-- its term nor in the threads beside it.
pub data MayTry (p : Program) (k : Known) (beside standing : List Thread) (asked : Paths)
    (s : Store) (t : Term) (fs : List Frame) (a : Term) : Type 0 where
  wakes : (Sleeps s a → ⊥) → MayTry p k beside standing asked s t fs a
  came : IsOneOf (road fs) asked → MayTry p k beside standing asked s t fs a
  alone : ((path : List ℕ) → Awake p k s standing t path → path ≡ road fs)
      → ((u : Thread) → IsOneOf u beside → Stirs p k s standing u.phase → ⊥)
      → MayTry p k beside standing asked s t fs a
