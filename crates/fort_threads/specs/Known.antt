-- Chapter "The machine with threads": what is known of a program with spawned threads, and the
-- forms of their own to which calls of the prelude lead. The code knows nothing of them: it runs
-- the prelude's bodies, step by step.
use Rattle.std.specs.Prelude.{◌≡◌, ℕ, List, [], ◌∷◌, ◌++◌, Some, slice_get}
use Rattle.fort_base.specs.declared.ids.DeclId.{DeclId}
use Rattle.fort_base.specs.declared.ids.SetId.{SetId}
use Rattle.fort_base.specs.declared.ids.TypeId.{TypeId}
use Rattle.fort_core.specs.declared.program.CoreDecl.{CoreDecl}
use Rattle.fort_core.specs.declared.program.Program.{Program}
use Rattle.fort_core.specs.declared.term.Term.{Term}
use Rattle.fort_core.specs.declared.value.Value.{Value, Object}
use Rattle.fort_machine.specs.Acts.{enters, calls}
use Rattle.fort_machine.specs.Calls.{Dispatches, by_body}
use Rattle.fort_machine.specs.Forms.{act}
use Rattle.fort_machine.specs.Frames.{Frame, plug}
use Rattle.fort_machine.specs.Runs.{location}

-- What is known of the program of a component with spawned threads: its declarations `spawn'`,
-- `wait`, `val` and `ready`, the prelude's `run`, the component's own, which is `run'`, the type
-- `Thread'`, and the object `TooManyThreads`.
pub record Known : Type 0 where
  pub spawn : DeclId
  pub wait : DeclId
  pub val : DeclId
  pub ready : DeclId
  pub run : DeclId
  pub own_run : DeclId
  pub thread : TypeId
  pub too_many : Value

-- The declarations whose calls lead to forms of their own.
abbrev pub leading : Known → List DeclId
leading k = k.spawn ∷ k.wait ∷ k.val ∷ k.ready ∷ []

-- All whose calls this machine takes in a way of its own.
abbrev pub known : Known → List DeclId
known k = k.run ∷ leading k

-- The object of a thread, by its location.
abbrev pub object_at : Known → ℕ → Value
object_at k l = Object k.thread (location l)

-- A form calls a declaration with values.
pub record Calls (p : Program) (a : Term) (d : DeclId) (values : List Value) : Type 0 where
  pub set : SetId
  pub declared : CoreDecl
  pub is_call : act p a ≡ calls set values
  pub dispatches : Dispatches p set values d declared

-- A term is the body of a declaration, with values in the places of its parameters.
pub record IsBody (p : Program) (d : DeclId) (values : List Value) (a : Term) : Type 0 where
  pub declared : CoreDecl
  pub text : Term
  pub is_declared : slice_get p.decls d.0 ≡ Some declared
  pub is_body : by_body p declared.body values ≡ enters text a

-- A form of its own: that to which a call of `spawn'` with a function leads, or one of `wait`,
-- `val` or `ready` with the object at a location.
pub data Own (p : Program) (k : Known) (a : Term) : Type 0 where
  spawning : (f : Value) → IsBody p k.spawn (f ∷ []) a → Own p k a
  waiting : (l : ℕ) → IsBody p k.wait (object_at k l ∷ []) a → Own p k a
  getting : (l : ℕ) → IsBody p k.val (object_at k l ∷ []) a → Own p k a
  asking : (l : ℕ) → IsBody p k.ready (object_at k l ∷ []) a → Own p k a

-- No form of its own stands round the place to which frames lead: nothing goes on inside one.
abbrev pub Outside : Program → Known → List Frame → Term → Type 0
Outside p k fs a = (gs hs : List Frame) (f : Frame) → fs ≡ gs ++ f ∷ hs
    → Own p k (plug (f ∷ hs) a) → ⊥
