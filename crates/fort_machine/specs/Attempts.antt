-- Chapter "Atomic": who is awake, which form may be tried, and how an attempt closes. The code has
-- books with lists of reads; here an attempt is what its inner run did.
use Rattle.std.specs.Prelude.{◌≡◌, ℕ, ◌<◌, Bool, true, false, ◌⊎◌, List, [], ◌∷◌, Option, Some}
use Rattle.fort_core.specs.declared.form.Mode.{Mode}
use Rattle.fort_core.specs.declared.form.Mode.TheVariants as mode
use Rattle.fort_core.specs.declared.program.Program.{Program}
use Rattle.fort_core.specs.declared.term.Term.{Term, Atomic, Asleep}
use Rattle.fort_core.specs.declared.term.Term as term
use Rattle.fort_core.specs.declared.value.Value.{Value}
use Rattle.fort_machine.specs.Cells.{found}
use Rattle.fort_machine.specs.Effects.{Store, Effect, completing, failing, aborting}
use Rattle.fort_machine.specs.Ends.{Finished, throw_of}
use Rattle.fort_machine.specs.Frames.{Frame, on, plug, road, passes, passed}
use Rattle.fort_machine.specs.Acts.{single}
use Rattle.fort_machine.specs.Marked.{Marks, In}

-- An atomic form, before an attempt or asleep after one.
pub data Form (a : Term) (m : Mode) (body : Term) : Type 0 where
  fresh : a ≡ Atomic m body → Form a m body
  slept : (marks : Marks) → m ≡ mode.Atomic → a ≡ Asleep marks body → Form a m body

-- A form sleeps while each location that it watches has the value that its last attempt read there.
pub record Sleeps (s : Store) (a : Term) : Type 0 where
  pub marks : Marks
  pub body : Term
  pub is_asleep : a ≡ Asleep marks body
  pub unchanged : (l : ℕ) (v : Value) → In l v marks → s l ≡ Some v

-- A thread that isn't finished and waits for none of its parts: each is finished or passed over.
pub record Ready (a : Term) : Type 0 where
  pub unfinished : Finished a → ⊥
  pub no_part : (f : Frame) (b : Term) → a ≡ on f b → Finished b ⊎ (passes f b ≡ true)

-- A thread of a machine is awake where it is ready, isn't passed over, and doesn't sleep; whether
-- it has a legal step doesn't matter.
pub record Awake (s : Store) (t : Term) (path : List ℕ) : Type 0 where
  pub frames : List Frame
  pub part : Term
  pub is_term : t ≡ plug frames part
  pub is_path : path ≡ road frames
  pub ready : Ready part
  pub reached : passed frames part ≡ false
  pub sleepless : Sleeps s part → ⊥

-- A form may be tried where it doesn't sleep, or where no other thread of its machine is awake.
-- Where the rule isn't kept (at `false`) it is left to whoever knows the whole machine.
abbrev pub MayTry : Bool → Store → Term → List Frame → Term → Type 0
MayTry false s t fs a = Unit {0}
MayTry true s t fs a = (Sleeps s a → ⊥) ⊎ ((path : List ℕ) → Awake s t path → path ≡ road fs)

-- Marks are what an attempt read of older locations while no write of its own stood, with the
-- values there.
pub record AreRead (marks : Marks) (d : Effect) : Type 0 where
  pub were_read : (l : ℕ) (v : Value) → In l v marks
      → (w : Option Value) × (d.cells l ≡ found (Some v) w)
  pub are_all : (l : ℕ) (v : Value) (w : Option Value) → d.cells l ≡ found (Some v) w → In l v marks

-- A location's number is below all those of marks.
abbrev pub AllAbove : ℕ → Marks → Type 0
AllAbove l [] = Unit {0}
AllAbove l (m ∷ ms) = (l < m.0.0) × AllAbove l ms

-- Marks stand in rising order of their locations, each once.
abbrev pub Rising : Marks → Type 0
Rising [] = Unit {0}
Rising (m ∷ ms) = AllAbove m.0.0 ms × Rising ms

-- How a run ends, or stands so far: at a term, or aborted by a step of `abort()` in its own
-- machine.
pub data Ended : Type 0 where
  goes : (term : Term) → Ended
  aborts : Ended

-- What an atomic form becomes by one attempt whose inner run ended so and did so, and what the
-- attempt did: completed at its value; failed with its throw; aborted as `tryatomic`, which throws
-- `TryAtomicFailure`; aborted as `atomic`, which sleeps.
pub data Closes (p : Program) (m : Mode) (body : Term) (r : Ended) (d : Effect) (b : Term)
    (e : Effect) : Type 0 where
  completed : (v : Value) → r ≡ goes (term.Value v) → b ≡ term.Value v → e ≡ completing d
      → Closes p m body r d b e
  failed : (v : Value) → r ≡ goes (throw_of v) → b ≡ throw_of v → e ≡ failing d
      → Closes p m body r d b e
  gave_up : (v : Value) → r ≡ aborts → m ≡ mode.Try
      → single p p.built_in.try_atomic_failure ≡ Some v → b ≡ throw_of v → e ≡ aborting d
      → Closes p m body r d b e
  fell_asleep : (marks : Marks) → r ≡ aborts → m ≡ mode.Atomic → AreRead marks d → Rising marks
      → b ≡ Asleep marks body → e ≡ aborting d → Closes p m body r d b e
