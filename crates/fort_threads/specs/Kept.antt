-- Chapter "The machine with threads": which threads ever begin. One that an attempt added which
-- failed or was aborted, or an attempt round it, isn't among them.
use Rattle.std.specs.Prelude.{◌≡◌, ℕ, ◌≤◌, Bool, List, [], ◌∷◌, ◌++◌, length, Some, slice_get, ◌⊎◌}
use Rattle.fort_core.specs.declared.form.Mode.{Mode}
use Rattle.fort_core.specs.declared.pick.Pick.{Pick}
use Rattle.fort_core.specs.declared.program.Program.{Program}
use Rattle.fort_core.specs.declared.term.Term.{Term}
use Rattle.fort_core.specs.declared.term.Term as term
use Rattle.fort_core.specs.declared.value.Value.{Value}
use Rattle.fort_machine.specs.Attempts.{Ended, goes, Closes}
use Rattle.fort_machine.specs.Effects.{Store, Effect}
use Rattle.fort_machine.specs.Journals.{opening_store}
use Rattle.fort_machine.specs.Parts.{IsOneOf}
use Rattle.fort_threads.specs.Known.{Known}
use Rattle.fort_threads.specs.Threads.{Paths, Thread, Done}
use Rattle.fort_threads.specs.Runs.{closed, Runs, none, step, stop, attempt}
use Rattle.fort_threads.specs.Machine.{Event, begins, Goes, rests, goes_on, begun, ended, alone, IsRun}

-- An attempt that came to no value adds no threads, whatever its inner run added.
abbrev pub UndoneAddNone : Type 0
UndoneAddNone = (p : Program) (m : Mode) (body becomes : Term) (r : Ended) (d : Done)
    (e : Effect) → Closes p m body r d.effect becomes e
    → ((v : Value) → becomes ≡ term.Value v → ⊥) → (closed r d e).added ≡ []

-- An attempt completed: its inner run came to a value.
abbrev pub Completes : Ended → Type 0
Completes r = (v : Value) × (r ≡ goes (term.Value v))

-- A step of a run added this thread, and each attempt of the run that has the step in it completed.
abbrev pub SpawnedIn : {p : Program} {k : Known} {inner : Bool} {beside standing : List Thread}
    {asked : Paths} {s : Store} {picks : List Pick} {t : Term} {r : Ended} {d : Done}
    → Runs p k inner beside standing asked s picks t r d → Thread → Type 0
SpawnedIn (none a b c) u = ⊥
SpawnedIn (step {d1 = d1} fs a b c e f g rest h) u = IsOneOf u d1.added ⊎ SpawnedIn rest u
SpawnedIn (stop fs a b c e f g h x y) u = ⊥
SpawnedIn (attempt {ended = r} fs a b c e f g h x inside y rest z) u =
    (Completes r × SpawnedIn inside u) ⊎ SpawnedIn rest u

-- A pick of a run added the thread of this number, by such a step.
abbrev pub KeptIn : {p : Program} {k : Known} {now later : List Thread} {s : Store}
    {events : List Event} {d : Effect} → Goes p k now s events later d → ℕ → Type 0
KeptIn (rests a b c) n = ⊥
KeptIn (goes_on {now = now} {done = done} before behind object a b run rest e) n =
    ((u : Thread) × (length now ≤ n) × (slice_get (now ++ done.added) n ≡ Some u)
    × SpawnedIn run u) ⊎ KeptIn rest n
KeptIn (begun before behind object f a b rest) n = KeptIn rest n
KeptIn (ended before behind object asked a b c rest) n = KeptIn rest n

-- A run of a program to the time at which a thread begins, in which a step added the thread that no
-- failed and no aborted attempt has in it.
pub record WasKept (p : Program) (k : Known) (events : List Event) (n : ℕ) : Type 0 where
  pub now : List Thread
  pub done : Effect
  pub run : Goes p k (alone p.first) (opening_store p) events now done
  pub is_kept : KeptIn run n

-- So each thread that begins in a run was spawned before, and by no attempt that failed or was
-- aborted, at any depth.
abbrev pub BegunWereKept : Type 0
BegunWereKept = (p : Program) (k : Known) (events : List Event) (later : List Thread) (d : Effect)
    → IsRun p k events later d → (before behind : List Event) (n : ℕ)
    → events ≡ before ++ begins n ∷ behind → WasKept p k before n
