-- Chapter "The machine with threads": what is known of a machine that runs the prelude, beside its
-- terms: what each location is for, and how far the objects of threads are.
use Rattle.std.specs.Prelude.{◌≡◌, ℕ, ◌+◌, ◌<◌, ◌≤◌, Bool, true, false, List, [], ◌∷◌, ◌++◌, Option, Some, None, ◌⊎◌}
use Rattle.fort_core.specs.declared.value.Value.{Value}
use Rattle.fort_threads.specs.Threads.{new, Thread}
use Rattle.fort_threads_law_servers.specs.Stages.{End}
use Rattle.fort_threads_law_private.specs.Grounds.{Ground}

-- Where a call stands: the path of its thread, before it the one of the attempt in which it is,
-- and so on outwards; last of all the number of the thread.
abbrev pub Spot : Type 0
Spot = List (List ℕ)

-- A spot is at another one, or in an attempt there.
abbrev pub IsAtOrIn : Spot → Spot → Type 0
IsAtOrIn outer inner = (ways : Spot) × (inner ≡ ways ++ outer)

-- What a location is for: nothing yet; terms of the component; a place of the object of a thread;
-- variables of the prelude.
pub data Use : Type 0 where
  unused : Use
  for_all : Use
  part_of : (object place : ℕ) → Use
  of_prelude : Use

-- How far an object is: the call of `spawn'` at a spot that made it has not added it yet; or it
-- was given to that call's thread, and its own thread has come to an end, or to none yet.
pub data Stage : Type 0 where
  in_flight : (spot : Spot) → Stage
  given : (end : Option End) → Stage

-- An object of a thread.
pub record Object : Type 0 where
  pub function : Value
  pub stage : Stage

abbrev pub object : Value → Stage → Object
object f stage = record { function = f; stage = stage }

-- What each location is for; the objects of threads, by their first locations; how many threads
-- were spawned; those that wait in `queue'`, the first one first, by their objects; how many have
-- not ended, as `open'` has it; and which locations of the prelude last: no thread of the
-- component touches them.
pub record World : Type 0 where
  pub serves : ℕ → Use
  pub object : ℕ → Option Object
  pub spawned : ℕ
  pub queue : List ℕ
  pub unended : ℕ
  pub lasts : ℕ → Bool

-- Whether a location is for terms of the component.
abbrev pub is_for_all : Use → Bool
is_for_all for_all = true
is_for_all _ = false

-- The function of an object that was given.
abbrev pub given_function : Option Object → Option Value
given_function None = None
given_function (Some o) = by_stage o.stage
  where
    by_stage : Stage → Option Value
    by_stage (in_flight spot) = None
    by_stage (given end) = Some o.function

-- What terms of the component may know of it.
abbrev pub ground_of : World → Ground
ground_of w =
    record {
      is_open = λ l. is_for_all (w.serves l);
      function = λ l. given_function (w.object l);
    }

-- An object was given.
abbrev pub IsGiven : World → ℕ → Type 0
IsGiven w l = (f : Value) × (end : Option End) × (w.object l ≡ Some (object f (given end)))

-- The thread of an object has come to an end.
abbrev pub HasCome : World → ℕ → End → Type 0
HasCome w l end = (f : Value) × (w.object l ≡ Some (object f (given (Some end))))

-- An object's four locations are its own.
abbrev pub HasParts : World → ℕ → Type 0
HasParts w l = (place : ℕ) → place < 4 → w.serves (l + place) ≡ part_of l place

-- An end stays.
abbrev pub EndStays : Option End → Option End → Type 0
EndStays None later = Unit {0}
EndStays (Some end) later = later ≡ Some end

-- The machine with threads has nothing at a location: it isn't used, or it is a place of an object
-- that wasn't given.
abbrev pub HasNothing : World → ℕ → Type 0
HasNothing w l = (w.serves l ≡ unused)
    ⊎ ((k place : ℕ) × (w.serves l ≡ part_of k place) × (IsGiven w k → ⊥))

-- A world follows another one, by what happens at a spot and in attempts there: uses stay; objects
-- keep their functions; those that were given stay so; those that are in flight elsewhere stay in
-- flight; no fewer threads are spawned; and the same locations last.
pub record FollowsAt (spot : Spot) (w x : World) : Type 0 where
  pub uses : (l : ℕ) → (w.serves l ≡ unused → ⊥) → x.serves l ≡ w.serves l
  pub functions : (l : ℕ) (f : Value) (stage : Stage) → w.object l ≡ Some (object f stage)
      → (later : Stage) × (x.object l ≡ Some (object f later))
  pub given : (l : ℕ) (f : Value) (end : Option End) → w.object l ≡ Some (object f (given end))
      → (later : Option End) × (x.object l ≡ Some (object f (given later))) × EndStays end later
  pub flying : (l : ℕ) (f : Value) (other : Spot)
      → w.object l ≡ Some (object f (in_flight other)) → (IsAtOrIn spot other → ⊥)
      → x.object l ≡ Some (object f (in_flight other))
  pub spawned : w.spawned ≤ x.spawned
  pub lasting : (l : ℕ) → x.lasts l ≡ w.lasts l

-- A later world, where as many threads were spawned as in an earlier one, and the queue is as
-- there.
abbrev pub with_counts : World → World → World
with_counts w x = record x { spawned = w.spawned; queue = w.queue; unended = w.unended }

-- None of some threads has begun.
abbrev pub AllNew : List Thread → Type 0
AllNew [] = Unit {0}
AllNew (u ∷ us) = ((f : Value) × (u.phase ≡ new f)) × AllNew us
