-- Chapter "The machine with threads": what may happen to one thread in a run, and in which order.
use Rattle.std.specs.Prelude.{◌≡◌, ℕ, ◌==◌, ◌<◌, List, [], ◌∷◌, ◌++◌, filter}
use Rattle.fort_core.specs.declared.program.Program.{Program}
use Rattle.fort_core.specs.declared.term.Term.{Term}
use Rattle.fort_machine.specs.Effects.{Store, Effect, idle}
use Rattle.fort_threads.specs.Known.{Known}
use Rattle.fort_threads.specs.Threads.{Thread}
use Rattle.fort_threads.specs.Machine.{Event, takes, begins, ends, Goes, IsRun, HaveEnded}

-- The thread to which something happens, by its number.
abbrev pub number_of : Event → ℕ
number_of (takes n pick) = n
number_of (begins n) = n
number_of (ends n) = n

-- What happens to one thread.
abbrev pub of_thread : ℕ → List Event → List Event
of_thread n es = filter (λ e. number_of e == n) es

-- How far a thread's life has come.
pub data Stage : Type 0 where
  not_begun : Stage
  alive : Stage
  has_ended : Stage

-- Events of one thread are a life from a stage on: it begins before all else, then takes picks, and
-- ends behind all else; the life may be cut off anywhere.
abbrev pub Lives : Stage → List Event → Type 0
Lives stage [] = Unit {0}
Lives not_begun (begins n ∷ es) = Lives alive es
Lives alive (takes n pick ∷ es) = Lives alive es
Lives alive (ends n ∷ es) = Lives has_ended es
Lives stage (e ∷ es) = ⊥

-- Each thread that is spawned has one life in a run: it begins at most once, takes its picks behind
-- that, and ends at most once, behind its picks.
abbrev pub EachLivesOnce : Type 0
EachLivesOnce = (p : Program) (k : Known) (events : List Event) (later : List Thread) (d : Effect)
    → IsRun p k events later d → (n : ℕ) → 0 < n → Lives not_begun (of_thread n events)

-- Thread 0 has begun from the start.
abbrev pub FirstLivesOnce : Type 0
FirstLivesOnce = (p : Program) (k : Known) (events : List Event) (later : List Thread) (d : Effect)
    → IsRun p k events later d → Lives alive (of_thread 0 events)

-- No thread begins twice in a run.
abbrev pub NoneBeginsTwice : Type 0
NoneBeginsTwice = (p : Program) (k : Known) (events : List Event) (later : List Thread) (d : Effect)
    → IsRun p k events later d → (before between behind : List Event) (n : ℕ)
    → events ≡ before ++ begins n ∷ (between ++ begins n ∷ behind) → ⊥

-- Where all threads have ended, nothing more happens.
abbrev pub NothingFollows : Type 0
NothingFollows = (p : Program) (k : Known) (now later : List Thread) (s : Store)
    (events : List Event) (d : Effect) (end : Term)
    → HaveEnded now end → Goes p k now s events later d → (events ≡ []) × (later ≡ now) × (d ≡ idle)
