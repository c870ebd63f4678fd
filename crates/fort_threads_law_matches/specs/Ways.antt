-- Chapter "The machine with threads": calls of `spawn'`, `wait`, `val`, `ready` and `run` that are
-- under way: what the machine has there, and what the machine with threads has.
use Rattle.std.specs.Prelude.{◌≡◌, ℕ, ◌+◌, ◌==◌, ◌≤◌, not, [], ◌∷◌, Some, true, false, pos}
use Rattle.fort_core.specs.declared.form.Mode.TheVariants as mode
use Rattle.fort_core.specs.declared.form.Slot.TheVariants as slot
use Rattle.fort_core.specs.declared.program.Program.{Program}
use Rattle.fort_core.specs.declared.term.Term.{Term, Call, Apply, Then, Atomic, Asleep}
use Rattle.fort_core.specs.declared.term.Term as term
use Rattle.fort_core.specs.declared.term.Term.TheVariants.{Read}
use Rattle.fort_core.specs.declared.value.Value.{Value, Small, Truth}
use Rattle.fort_machine.specs.Acts.{unit}
use Rattle.fort_machine.specs.Ends.{is_thrown}
use Rattle.fort_machine.specs.Attempts.{Form}
use Rattle.fort_machine.specs.Marked.{Marks, In}
use Rattle.fort_machine.specs.Runs.{location}
use Rattle.fort_threads_law_servers.specs.Prelude.{Names, object_of, number, adding, waiting}
use Rattle.fort_threads_law_servers.specs.Stages.{End, at_value, at_throw, mark_of}
use Rattle.fort_threads_law_servers.specs.Calls.{spawning, getting, asking, mark_at, Place, makes_it, has_it, adds, was_refused, calls_wait, waits_in, has_waited, reads_mark, compares, is_told, reads_thrown, has_thrown, reads_kept, place_term}
use Rattle.fort_threads_law_servers.specs.Roots.{Start, testing}
use Rattle.fort_threads_law_private.specs.Private.{Private, PrivateValue}
use Rattle.fort_threads_law_worlds.specs.Worlds.{Spot, in_flight, object, World, ground_of, IsGiven, HasCome}
use Rattle.fort_threads_law_worlds.specs.Known.{Own}

-- A call of `spawn'` with a function, at a spot: before its object is made; once that is in flight,
-- before its attempt, whose form never sleeps, and at the throw of a refusal.
abbrev pub Spawns : Program → Names → Start → World → Spot → Value → Place → Type 0
Spawns p n m w spot f (makes_it g) = (g ≡ f) × PrivateValue p n m (ground_of w) f
Spawns p n m w spot f (has_it l) = w.object l ≡ Some (object f (in_flight spot))
Spawns p n m w spot f (adds l form) =
    (w.object l ≡ Some (object f (in_flight spot))) × (form ≡ Atomic mode.Atomic (adding n l))
Spawns p n m w spot f (was_refused l thrown) =
    (w.object l ≡ Some (object f (in_flight spot))) × (thrown ≡ n.too_many) × (64 ≤ w.spawned)
Spawns p n m w spot f _ = ⊥

-- Where the form of an attempt of `wait` sleeps, it watches the mark of its object, which was 0.
abbrev pub WatchesMark : ℕ → Term → Type 0
WatchesMark l u =
    (marks : Marks) (body : Term) → u ≡ Asleep marks body → In (l + 1) (Small (pos 0)) marks

-- A call of `val` of an object: before `wait` has come back, and behind that, where the thread has
-- come to an end.
abbrev pub Gets : Names → World → ℕ → Place → Type 0
Gets n w l (calls_wait k) = k ≡ l
Gets n w l (waits_in k form) =
    (k ≡ l) × Form form mode.Atomic (waiting n l) × WatchesMark l form
Gets n w l (has_waited k v) = (k ≡ l) × ((end : End) × HasCome w l end)
Gets n w l (reads_mark k) = (k ≡ l) × ((end : End) × HasCome w l end)
Gets n w l (compares k mark) = (k ≡ l) × ((end : End) × HasCome w l end × (mark ≡ mark_of end))
Gets n w l (is_told k threw) =
    (k ≡ l) × ((end : End) × HasCome w l end × (threw ≡ (mark_of end == 2)))
Gets n w l (reads_thrown k) = (k ≡ l) × ((v : Value) × HasCome w l (at_throw v))
Gets n w l (has_thrown thrown) = HasCome w l (at_throw thrown)
Gets n w l (reads_kept k) = (k ≡ l) × ((v : Value) × HasCome w l (at_value v))
Gets n w l _ = ⊥

-- The places of a call of `run` behind its step: `main'` is called; tests `started'`, which is
-- true; is told; the component's own `run` is applied, and called.
pub data Starting : Type 0 where
  calls_main : Starting
  tests_started : Starting
  was_told : Starting
  applies_own : Starting
  calls_own : Starting

abbrev pub starting_term : Names → Start → Own → Starting → Term
starting_term n m o calls_main = Call m.main (term.Value m.own ∷ [])
starting_term n m o tests_started = testing n m (Read (slot.Location (location m.started)))
starting_term n m o was_told = testing n m (term.Value (Truth true))
starting_term n m o applies_own = Apply (term.Value m.own) (term.Value unit)
starting_term n m o calls_own = Call o.set []

-- A call is under way at a spot, as this term of the machine; in the machine with threads the form
-- of its own stands there, or the body of the component's own `run`, which isn't a throw as it is
-- written: a throw there would be one before it is one in the machine.
pub data IsUnderWay (p : Program) (n : Names) (m : Start) (o : Own) (w : World) (spot : Spot)
    (u v : Term) : Type 0 where
  spawns : (f : Value) (place : Place) → Spawns p n m w spot f place → u ≡ place_term n place
      → v ≡ spawning n (Call n.make (term.Value f ∷ [])) → IsUnderWay p n m o w spot u v
  waits : (l : ℕ) → IsGiven w l → Form u mode.Atomic (waiting n l) → WatchesMark l u
      → v ≡ Atomic mode.Atomic (waiting n l) → IsUnderWay p n m o w spot u v
  gets : (l : ℕ) (place : Place) → IsGiven w l → Gets n w l place → u ≡ place_term n place
      → v ≡ getting n l (Call n.wait (term.Value (object_of n l) ∷ []))
      → IsUnderWay p n m o w spot u v
  asks : (l : ℕ) → IsGiven w l → u ≡ asking n (mark_at n l) → v ≡ asking n (mark_at n l)
      → IsUnderWay p n m o w spot u v
  starts : (place : Starting) → u ≡ starting_term n m o place → v ≡ o.body
      → Private p n m (ground_of w) o.body → is_thrown o.body ≡ false
      → IsUnderWay p n m o w spot u v

-- The machine with threads is ahead by a step, and has a value already: that of `spawn'` behind its
-- attempt, or of `ready` behind its look at the mark.
pub data IsAhead (n : Names) (w : World) (u : Term) (v : Value) : Type 0 where
  was_added : (l : ℕ) (x : Value) → IsGiven w l
      → u ≡ Then (term.Value x) (term.Value (object_of n l)) → v ≡ object_of n l
      → IsAhead n w u v
  has_looked : (k : ℕ) → k ≤ 64 → u ≡ asking n (number k) → v ≡ Truth (not (k == 0))
      → IsAhead n w u v
