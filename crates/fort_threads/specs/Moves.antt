-- Chapter "The machine with threads": a step of one form. A form of its own takes the step that is
-- said here, and each other form that of the machine.
use Rattle.std.specs.Prelude.{◌≡◌, ℕ, ◌<◌, ◌≤◌, Bool, true, List, [], ◌∷◌, length, Some, is_some, slice_get, pos}
use Rattle.fort_base.specs.declared.ids.DeclId.{DeclId}
use Rattle.fort_core.specs.declared.program.CoreDecl.{CoreDecl}
use Rattle.fort_core.specs.declared.program.Program.{Program}
use Rattle.fort_core.specs.declared.term.Term.{Term}
use Rattle.fort_core.specs.declared.term.Term as term
use Rattle.fort_core.specs.declared.value.Value.{Value, Small, Truth}
use Rattle.fort_machine.specs.Acts.{unit}
use Rattle.fort_machine.specs.Calls.{by_body}
use Rattle.fort_machine.specs.Effects.{Effect, paid, making}
use Rattle.fort_machine.specs.Ends.{throw_of}
use Rattle.fort_machine.specs.Parts.{IsOneOf}
use Rattle.fort_machine.specs.Steps.{Does, Local}
use Rattle.fort_threads.specs.Known.{Known, leading, known, object_at, Calls, IsBody, Own}
use Rattle.fort_threads.specs.Threads.{Thread, new, thread, end_of, Done, only}

-- As many threads may be spawned in a run.
abbrev pub most_spawned : ℕ
most_spawned = 64

-- What the four locations of a new thread's object hold.
abbrev pub opening_fields : Value → List Value
opening_fields f = f ∷ Small (pos 0) ∷ unit ∷ unit ∷ []

-- The step of a form of its own, where these threads stand, thread 0 among them. `spawn'` adds a
-- thread that has not begun, and becomes its object, or throws where the most are spawned. `wait`
-- and `val` have a step once the thread has ended: `()`, and its end. `ready` tells whether it has.
pub data OwnStep (p : Program) (k : Known) (standing : List Thread) (loc : ℕ) (a b : Term)
    (d : Done) : Type 0 where
  spawns : (f : Value) → IsBody p k.spawn (f ∷ []) a → length standing ≤ most_spawned
      → b ≡ term.Value (object_at k loc)
      → d ≡ (record {
        effect = making loc (opening_fields f) 1;
        added = thread (Some loc) (new f) ∷ [];
        came = true;
      })
      → OwnStep p k standing loc a b d
  refuses : (f : Value) → IsBody p k.spawn (f ∷ []) a → most_spawned < length standing → loc ≡ 0
      → b ≡ throw_of k.too_many → d ≡ only (paid 1) → OwnStep p k standing loc a b d
  waits : (l : ℕ) (end : Term) → IsBody p k.wait (object_at k l ∷ []) a
      → end_of standing l ≡ Some end → loc ≡ 0 → b ≡ term.Value unit → d ≡ only (paid 1)
      → OwnStep p k standing loc a b d
  gets : (l : ℕ) (end : Term) → IsBody p k.val (object_at k l ∷ []) a
      → end_of standing l ≡ Some end → loc ≡ 0 → b ≡ end → d ≡ only (paid 1)
      → OwnStep p k standing loc a b d
  asks : (l : ℕ) → IsBody p k.ready (object_at k l ∷ []) a → loc ≡ 0
      → b ≡ term.Value (Truth (is_some (end_of standing l))) → d ≡ only (paid 1)
      → OwnStep p k standing loc a b d

-- A form steps to another one: a form of its own by its own step; a call of `spawn'`, `wait`, `val`
-- or `ready`, as each call does, to such a form; a call of the prelude's `run` as one of `run'`
-- does; and any other form as in the machine.
pub data Moves (p : Program) (k : Known) (inner : Bool) (standing : List Thread) (loc : ℕ)
    (a b : Term) (d : Done) : Type 0 where
  by_itself : OwnStep p k standing loc a b d → Moves p k inner standing loc a b d
  comes : (e : Effect) (c : DeclId) (values : List Value) → (Own p k a → ⊥)
      → IsOneOf c (leading k) → Calls p a c values → Local p inner loc a b e
      → d ≡ (record { effect = e; added = []; came = true }) → Moves p k inner standing loc a b d
  starts : (e : Effect) (declared : CoreDecl) → (Own p k a → ⊥) → Calls p a k.run []
      → slice_get p.decls k.own_run.0 ≡ Some declared
      → Does p inner loc (by_body p declared.body []) b e → d ≡ only e
      → Moves p k inner standing loc a b d
  as_ever : (e : Effect) → (Own p k a → ⊥)
      → ((c : DeclId) (values : List Value) → IsOneOf c (known k) → Calls p a c values → ⊥)
      → Local p inner loc a b e → d ≡ only e → Moves p k inner standing loc a b d
