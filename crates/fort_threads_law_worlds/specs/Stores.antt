-- Chapter "The machine with threads": the stores of both machines: they agree where terms of the
-- component look, and the prelude's own locations say what the machine with threads knows by
-- itself.
use Rattle.std.specs.Prelude.{◌≡◌, ℕ, ◌+◌, ◌<◌, ◌≤◌, ◌^◌, true, List, [], ◌∷◌, length, Option, Some, None, option_map, pos}
use Rattle.fort_core.specs.declared.program.Program.{Program}
use Rattle.fort_core.specs.declared.value.Value.{Value, Small, Truth}
use Rattle.fort_machine.specs.Acts.{unit}
use Rattle.fort_machine.specs.Effects.{Store}
use Rattle.fort_machine.specs.Parts.{IsOneOf}
use Rattle.fort_machine.specs.Types.{has_type}
use Rattle.fort_threads.specs.Threads.{new, Thread, end_of}
use Rattle.fort_threads_law_servers.specs.Prelude.{Names, object_of}
use Rattle.fort_threads_law_servers.specs.Stages.{End, at_throw, end_term, kept_value, mark_of}
use Rattle.fort_threads_law_servers.specs.Roots.{Start}
use Rattle.fort_threads_law_private.specs.Private.{PrivateValue}
use Rattle.fort_threads_law_private.specs.Fine.{PrivateStore}
use Rattle.fort_threads_law_worlds.specs.Worlds.{Spot, unused, for_all, part_of, of_prelude, in_flight, given, Object, object, World, ground_of, HasParts, IsGiven}

-- The mark of an object: 0 before its thread's end.
abbrev pub mark : Option End → ℕ
mark None = 0
mark (Some end) = mark_of end

-- A value leads to objects of threads, each by the `next'` of the one before it, up to `()`.
abbrev pub IsQueue : Names → Store → Value → List ℕ → Type 0
IsQueue n s v [] = v ≡ unit
IsQueue n s v (l ∷ ls) =
    (v ≡ object_of n l) × ((x : Value) × (s (l + 3) ≡ Some x) × IsQueue n s x ls)

-- A world as both stores have it, where these threads stand. Both are the same at locations for
-- terms of the component, and what isn't used, and that alone, isn't there. An object holds its
-- function; once given its mark and what is kept of its thread's end, which is the end of the
-- thread with this object, and where it is a throw one of an exception; while it is in flight its
-- mark is 0, and the machine with threads has no location of it. `count'` has how many threads
-- were spawned, `open'` how many have not ended, no more but for thread 0, and `queue'` those that
-- wait; `started'` is true. A thread that stands has an object that was given, with its function
-- where it has not begun. What lasts is of the prelude, and none of these four.
pub record AreStores (p : Program) (n : Names) (m : Start) (w : World) (standing : List Thread)
    (s t : Store) : Type 0 where
  pub agree : (l : ℕ) → w.serves l ≡ for_all → s l ≡ t l
  pub private_store : PrivateStore p n m (ground_of w) s
  pub nothing : (l : ℕ) → w.serves l ≡ unused → (s l ≡ None) × (t l ≡ None)
  pub there : (l : ℕ) → s l ≡ None → w.serves l ≡ unused
  pub parts : (l : ℕ) (o : Object) → w.object l ≡ Some o → HasParts w l
  pub are_objects : (l place : ℕ) (k : ℕ) → w.serves k ≡ part_of l place
      → (o : Object) × (w.object l ≡ Some o) × (place < 4) × (k ≡ l + place)
  pub function : (l : ℕ) (o : Object) → w.object l ≡ Some o
      → (s l ≡ Some o.function) × PrivateValue p n m (ground_of w) o.function
  pub marked : (l : ℕ) (f : Value) (end : Option End) → w.object l ≡ Some (object f (given end))
      → (s (l + 1) ≡ Some (Small (pos (mark end)))) × (end_of standing l ≡ option_map end_term end)
  pub kept : (l : ℕ) (f : Value) (end : End) → w.object l ≡ Some (object f (given (Some end)))
      → (s (l + 2) ≡ Some (kept_value end)) × PrivateValue p n m (ground_of w) (kept_value end)
  pub exceptions : (l : ℕ) (f v : Value)
      → w.object l ≡ Some (object f (given (Some (at_throw v)))) → has_type p v n.exception ≡ true
  pub flying : (l : ℕ) (f : Value) (spot : Spot) → w.object l ≡ Some (object f (in_flight spot))
      → (s (l + 1) ≡ Some (Small (pos 0))) × ((place : ℕ) → place < 4 → t (l + place) ≡ None)
  pub own : (w.serves n.queue ≡ of_prelude) × (w.serves n.unended ≡ of_prelude)
      × (w.serves n.count ≡ of_prelude) × (w.serves m.started ≡ of_prelude)
  pub count : s n.count ≡ Some (Small (pos w.spawned))
  pub few : w.spawned ≤ 64
  pub standing_count : length standing ≡ 1 + w.spawned
  pub objects_given : (u : Thread) (l : ℕ) → IsOneOf u standing → u.object ≡ Some l → IsGiven w l
  pub bounded : (l : ℕ) (o : Object) → w.object l ≡ Some o → l + 4 ≤ 2 ^ 64
  pub new_threads : (u : Thread) (l : ℕ) (f : Value) → IsOneOf u standing → u.object ≡ Some l
      → u.phase ≡ new f → (end : Option End) × (w.object l ≡ Some (object f (given end)))
  pub lasting : (l : ℕ) → w.lasts l ≡ true
      → (w.serves l ≡ of_prelude) × (l ≡ n.queue → ⊥) × (l ≡ n.unended → ⊥) × (l ≡ n.count → ⊥)
      × (l ≡ m.started → ⊥)
  pub unended : s n.unended ≡ Some (Small (pos w.unended))
  pub unended_few : w.unended ≤ 1 + w.spawned
  pub queued : (v : Value) × (s n.queue ≡ Some v) × IsQueue n s v w.queue
  pub in_queue : (l : ℕ) → IsOneOf l w.queue → IsGiven w l
  pub started : s m.started ≡ Some (Truth true)
