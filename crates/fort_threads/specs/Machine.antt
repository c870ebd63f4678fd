-- Chapter "The machine with threads": the root's machine, in which threads begin, go on and end.
use Rattle.std.specs.Prelude.{◌≡◌, ℕ, false, List, [], ◌∷◌, ◌++◌, length, Option, None}
use Rattle.fort_core.specs.declared.pick.Pick.{Pick}
use Rattle.fort_core.specs.declared.program.Program.{Program}
use Rattle.fort_core.specs.declared.term.Term.{Term, Apply}
use Rattle.fort_core.specs.declared.term.Term as term
use Rattle.fort_core.specs.declared.value.Value.{Value}
use Rattle.fort_machine.specs.Acts.{unit}
use Rattle.fort_machine.specs.Attempts.{goes}
use Rattle.fort_machine.specs.Effects.{Store, Effect, idle, both, afterwards}
use Rattle.fort_machine.specs.Ends.{Finished}
use Rattle.fort_machine.specs.Journals.{opening_store, MakesWithinBounds}
use Rattle.fort_machine.specs.Parts.{IsOneOf}
use Rattle.fort_threads.specs.Known.{Known}
use Rattle.fort_threads.specs.Threads.{Paths, new, going, over, Thread, thread, Done, noted_by}
use Rattle.fort_threads.specs.Runs.{Runs}

-- What happens in a run: a thread, by its number, takes a pick, begins, or ends.
pub data Event : Type 0 where
  takes : (number : ℕ) (pick : Pick) → Event
  begins : (number : ℕ) → Event
  ends : (number : ℕ) → Event

-- The term of a thread that begins: the application of its function to `()`.
abbrev pub applied : Value → Term
applied f = Apply (term.Value f) (term.Value unit)

-- Threads, numbered in their order, go from a store by events to threads, and do something: by no
-- event; a thread that goes on takes a pick, and the threads that this adds stand behind all; a
-- thread that has not begun begins; one that is finished ends. To begin and to end costs nothing.
pub data Goes (p : Program) (k : Known) : (now : List Thread) (s : Store) (events : List Event)
    (later : List Thread) (d : Effect) → Type 0 where
  rests : {now later : List Thread} {s : Store} {events : List Event} {d : Effect}
      → events ≡ [] → later ≡ now → d ≡ idle → Goes p k now s events later d
  goes_on : {now later : List Thread} {s : Store} {events rest : List Event} {t u : Term}
      {asked : Paths} {pick : Pick} {d e : Effect} {done : Done} (before behind : List Thread)
      (object : Option ℕ)
      → events ≡ takes (length before) pick ∷ rest
      → now ≡ before ++ thread object (going t asked) ∷ behind
      → Runs p k false (before ++ behind) now asked s (pick ∷ []) t (goes u) done
      → Goes p k (before ++ thread object (going u (noted_by pick done.came asked))
      ∷ (behind ++ done.added)) (afterwards done.effect s) rest later e
      → d ≡ both done.effect e → Goes p k now s events later d
  begun : {now later : List Thread} {s : Store} {events rest : List Event} {d : Effect}
      (before behind : List Thread) (object : Option ℕ) (f : Value)
      → events ≡ begins (length before) ∷ rest
      → now ≡ before ++ thread object (new f) ∷ behind
      → Goes p k (before ++ thread object (going (applied f) []) ∷ behind) s rest later d
      → Goes p k now s events later d
  ended : {now later : List Thread} {s : Store} {events rest : List Event} {t : Term}
      {d : Effect} (before behind : List Thread) (object : Option ℕ) (asked : Paths)
      → events ≡ ends (length before) ∷ rest
      → now ≡ before ++ thread object (going t asked) ∷ behind → Finished t
      → Goes p k (before ++ thread object (over t) ∷ behind) s rest later d
      → Goes p k now s events later d

-- Thread 0 alone, as a term: it has begun, and has no object.
abbrev pub alone : Term → List Thread
alone t = thread None (going t []) ∷ []

-- A run of a program: thread 0 begins as its first term, on its opening store. The threads to which
-- the run has come, and what was done.
pub record IsRun (p : Program) (k : Known) (events : List Event) (later : List Thread) (d : Effect)
    : Type 0 where
  pub goes : Goes p k (alone p.first) (opening_store p) events later d
  pub bounded : MakesWithinBounds d

-- All threads have ended, thread 0 at this term: so a run ends.
pub record HaveEnded (later : List Thread) (end : Term) : Type 0 where
  pub others : List Thread
  pub are_all : later ≡ thread None (over end) ∷ others
  pub all_over : (u : Thread) → IsOneOf u others → (t : Term) × (u.phase ≡ over t)
