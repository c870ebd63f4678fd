-- Chapter "Threads that are spawned" of docs/LANGUAGE.md: what a completed attempt of `take'` does
-- to the queue of threads, and one of `spawn'`, and what one of `wait` has read.
use Rattle.std.specs.Prelude.{◌≡◌, ℕ, ◌+◌, ◌==◌, ◌≤◌, true, false, List, [], ◌∷◌, ◌++◌, Some, pos}
use Rattle.fort_base.specs.declared.ty.Ty.TheVariants.{Named}
use Rattle.fort_core.specs.declared.program.Program.{Program}
use Rattle.fort_core.specs.declared.term.Term as term
use Rattle.fort_core.specs.declared.value.Value.{Value, Small}
use Rattle.fort_machine.specs.Acts.{unit}
use Rattle.fort_machine.specs.Effects.{Store, Effect, paid, reading, writing, completing}
use Rattle.fort_machine.specs.RunLaws.{all_of}
use Rattle.fort_machine.specs.Types.{has_type}
use Rattle.fort_threads_law_servers.specs.Prelude.{Names, object_of, taking, adding, waiting, HasPrelude}
use Rattle.fort_threads_law_servers.specs.Stages.{Attempted}

-- The picks of an attempt that takes a thread, by what each does: `queue'` is read, which holds the
-- thread's object; two steps; `next'` of the object is read, and what it held is written to
-- `queue'`; a step.
abbrev pub takes_thread : Names → ℕ → Value → List Effect
takes_thread n l w =
    reading n.queue (object_of n l) ∷ paid 1 ∷ paid 1 ∷ reading (l + 3) w ∷ writing n.queue w
    ∷ paid 1 ∷ []

-- An attempt of `take'` that completed at a thread took the first one of the queue: `queue'` held
-- it, and holds now what stood behind it. Nothing else is changed, and nothing is printed.
abbrev pub TakesTheFirst : Type 0
TakesTheFirst = (p : Program) (n : Names) → HasPrelude p n → (s : Store) (v : Value) (d : Effect)
    → Attempted p s (taking n) (term.Value v) d → has_type p v (Named n.thread) ≡ true
    → (s n.queue ≡ Some v)
    × ((l : ℕ) × (w : Value) × (v ≡ object_of n l) × (s (l + 3) ≡ Some w)
    × (d ≡ completing (all_of (takes_thread n l w))))

-- An attempt of `wait` completes only where the thread's mark isn't 0.
abbrev pub WaitsForTheMark : Type 0
WaitsForTheMark = (p : Program) (n : Names) → HasPrelude p n
    → (s : Store) (l : ℕ) (v : Value) (d : Effect) → Attempted p s (waiting n l) (term.Value v) d
    → (mark : Value) × (s (l + 1) ≡ Some mark) × (mark ≡ Small (pos 0) → ⊥)

-- What `x += 1` does of a variable at a location, which holds a small number.
abbrev pub raises : ℕ → ℕ → List Effect
raises x k =
    reading x (Small (pos k)) ∷ paid 1 ∷ writing x (Small (pos (k + 1))) ∷ paid 1 ∷ []

-- The picks of an attempt that adds a thread, by what each does: `count'` is read, which isn't 64;
-- `count'` and `open'` are raised; `queue'` is read, what it held is written to `next'` of the
-- object, and the object to `queue'`.
abbrev pub adds_thread : Names → ℕ → ℕ → ℕ → Value → List Effect
adds_thread n l k o w =
    reading n.count (Small (pos k)) ∷ paid 1 ∷ paid 1 ∷ paid 1
    ∷ (raises n.count k ++ (raises n.unended o
    ++ reading n.queue w ∷ writing (l + 3) w ∷ paid 1 ∷ writing n.queue (object_of n l) ∷ []))

-- An attempt of `spawn'` completes only where fewer than 64 threads stand, and adds the object's
-- thread before the first one of the queue; one more stands, and one more has not ended. Nothing
-- else is changed, and nothing is printed.
abbrev pub AddsAThread : Type 0
AddsAThread = (p : Program) (n : Names) → HasPrelude p n
    → (s : Store) (k o l : ℕ) (v : Value) (d : Effect)
    → s n.count ≡ Some (Small (pos k)) → k ≤ 64 → s n.unended ≡ Some (Small (pos o)) → o ≤ 65
    → Attempted p s (adding n l) (term.Value v) d
    → (v ≡ unit) × ((k == 64) ≡ false)
    × ((w : Value) × (d ≡ completing (all_of (adds_thread n l k o w))))
