-- Chapter "The machine with threads": what each attempt of the prelude's own `atomic` forms comes to:
-- of `take'`, of `open' -= 1`, and of `wait`.
use Rattle.std.specs.Prelude.{◌≡◌, ℕ, ◌+◌, ◌≤◌, suc, true, false, List, [], Some, pos}
use Rattle.fort_base.specs.declared.ty.Ty.TheVariants.{Named}
use Rattle.fort_core.specs.declared.program.Program.{Program}
use Rattle.fort_core.specs.declared.term.Term.{Term, Asleep}
use Rattle.fort_core.specs.declared.term.Term as term
use Rattle.fort_core.specs.declared.value.Value.{Value, Small}
use Rattle.fort_machine.specs.Acts.{unit}
use Rattle.fort_machine.specs.Effects.{Store, Effect, afterwards}
use Rattle.fort_machine.specs.Marked.{Marks, In}
use Rattle.fort_machine.specs.Types.{has_type}
use Rattle.fort_threads_law_servers.specs.Prelude.{Names, object_of, taking, fewer, waiting, HasPrelude}
use Rattle.fort_threads_law_servers.specs.Stages.{Attempted}
use Rattle.fort_threads_law_worlds.specs.Known.{Counts}

-- Nothing is printed, and the store is as before.
pub record IsSilent (d : Effect) (s : Store) : Type 0 where
  pub prints_nothing : d.output ≡ []
  pub leaves_all : (l : ℕ) → afterwards d s l ≡ s l

-- Nothing is printed, and one location alone gets a value.
pub record SetsOne (d : Effect) (s : Store) (l : ℕ) (v : Value) : Type 0 where
  pub prints_nothing : d.output ≡ []
  pub sets : afterwards d s l ≡ Some v
  pub leaves_others : (k : ℕ) → (k ≡ l → ⊥) → afterwards d s k ≡ s k

-- What an attempt of `take'` becomes, where `queue'` holds a value, `open'` a number, and each
-- thread's object what is behind it: the first
-- thread, which it took off the queue; or, where none is there, that value, as all threads have ended,
-- or a form that sleeps and watches the queue.
pub data TakeEnds (p : Program) (n : Names) (s : Store) (v : Value) (k : ℕ) (next : Term) (d : Effect)
    : Type 0 where
  took : (l : ℕ) (w : Value) → v ≡ object_of n l → s (l + 3) ≡ Some w → next ≡ term.Value v
      → has_type p v (Named n.thread) ≡ true → SetsOne d s n.queue w → TakeEnds p n s v k next d
  found_none : has_type p v (Named n.thread) ≡ false → k ≡ 0 → next ≡ term.Value v → IsSilent d s
      → TakeEnds p n s v k next d
  slept : (marks : Marks) → next ≡ Asleep marks (taking n) → In n.queue v marks
      → has_type p v (Named n.thread) ≡ false → IsSilent d s → TakeEnds p n s v k next d

abbrev pub EachTakeEnds : Type 0
EachTakeEnds = (p : Program) (n : Names) → HasPrelude p n → Counts p n
    → (s : Store) (v : Value) (k : ℕ) (next : Term) (d : Effect) → s n.queue ≡ Some v
    → s n.unended ≡ Some (Small (pos k)) → k ≤ 65
    → ((l : ℕ) → v ≡ object_of n l → (w : Value) × (s (l + 3) ≡ Some w))
    → Attempted p s (taking n) next d
    → TakeEnds p n s v k next d

-- An attempt of `open' -= 1` completes, and `open'` is one less.
abbrev pub EachCountGoesDown : Type 0
EachCountGoesDown = (p : Program) (n : Names) → HasPrelude p n → Counts p n
    → (s : Store) (k : ℕ) (next : Term) (d : Effect) → s n.unended ≡ Some (Small (pos (suc k)))
    → k ≤ 64 → Attempted p s (fewer n) next d
    → (next ≡ term.Value unit) × SetsOne d s n.unended (Small (pos k))

-- An attempt of `wait` completes where the mark isn't 0, and does nothing.
abbrev pub EachWaitEnds : Type 0
EachWaitEnds = (p : Program) (n : Names) → HasPrelude p n
    → (s : Store) (l k : ℕ) (next : Term) (d : Effect) → s (l + 1) ≡ Some (Small (pos (suc k)))
    → suc k ≤ 64 → Attempted p s (waiting n l) next d
    → (next ≡ term.Value unit) × IsSilent d s
