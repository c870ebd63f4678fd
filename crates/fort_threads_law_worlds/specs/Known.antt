-- Chapter "The machine with threads": the same declarations as both machines know them: the
-- prelude by its numbers, and what is known of a program with spawned threads.
use Rattle.std.specs.Prelude.{◌≡◌, ℕ, ◌==◌, ◌≤◌, false, nat_lt, suc, List, [], ◌∷◌, Some, slice_get, pos}
use Rattle.fort_base.specs.declared.ids.DeclId.{DeclId}
use Rattle.fort_base.specs.declared.ids.SetId.{SetId}
use Rattle.fort_base.specs.declared.ids.TypeId.{TypeId}
use Rattle.fort_core.specs.declared.form.Mode.TheVariants as mode
use Rattle.fort_core.specs.declared.form.Slot.TheVariants as slot
use Rattle.fort_core.specs.declared.program.CoreDecl.{CoreDecl}
use Rattle.fort_core.specs.declared.program.Program.{Program}
use Rattle.fort_core.specs.declared.term.Term.{Term, Call, Apply, Atomic}
use Rattle.fort_core.specs.declared.term.Term as term
use Rattle.fort_core.specs.declared.term.Term.TheVariants.{Read}
use Rattle.fort_core.specs.declared.value.Value.{Value, Small, Truth}
use Rattle.fort_machine.specs.Acts.{enters, becomes, unit, single}
use Rattle.fort_machine.specs.Calls.{Dispatches, by_body}
use Rattle.fort_machine.specs.Forms.{act}
use Rattle.fort_machine.specs.Marked.{Bare}
use Rattle.fort_machine.specs.Runs.{location}
use Rattle.fort_threads.specs.Known.{Known, IsBody}
use Rattle.fort_threads_law_servers.specs.Prelude.{Names, object_of, waiting, LeadsTo}
use Rattle.fort_threads_law_servers.specs.Calls.{spawning, getting, asking, mark_at}
use Rattle.fort_threads_law_servers.specs.Roots.{Start, testing}

-- The component's own `run`, as the prelude runs it: its set, and its body.
pub record Own : Type 0 where
  pub set : SetId
  pub text : Term
  pub body : Term

-- What both machines know is the same: the type and the object of `TooManyThreads`; the bodies of
-- `spawn'`, `wait`, `val` and `ready`, and with what they are called; the bodies of `run` and of
-- the component's own, and that of `main'`, and that the function that this one is given calls the
-- component's own. The prelude's four variables stand apart.
pub record AreSame (p : Program) (n : Names) (m : Start) (o : Own) (k : Known) : Type 0 where
  pub thread : k.thread ≡ n.thread
  pub too_many : k.too_many ≡ n.too_many
  pub is_single : (id : TypeId) × (single p id ≡ Some n.too_many)
  pub spawns : (f : Value)
      → IsBody p k.spawn (f ∷ []) (spawning n (Call n.make (term.Value f ∷ [])))
  pub waits : (l : ℕ) → IsBody p k.wait (object_of n l ∷ []) (Atomic mode.Atomic (waiting n l))
  pub gets : (l : ℕ)
      → IsBody p k.val (object_of n l ∷ [])
      (getting n l (Call n.wait (term.Value (object_of n l) ∷ [])))
  pub asks : (l : ℕ) → IsBody p k.ready (object_of n l ∷ []) (asking n (mark_at n l))
  pub spawns_one : (set : SetId) (values : List Value) (declared : CoreDecl)
      → Dispatches p set values k.spawn declared → (f : Value) × (values ≡ f ∷ [])
  pub waits_for_one : (set : SetId) (values : List Value) (declared : CoreDecl)
      → Dispatches p set values k.wait declared → (l : ℕ) × (values ≡ object_of n l ∷ [])
  pub gets_one : (set : SetId) (values : List Value) (declared : CoreDecl)
      → Dispatches p set values k.val declared → (l : ℕ) × (values ≡ object_of n l ∷ [])
  pub asks_one : (set : SetId) (values : List Value) (declared : CoreDecl)
      → Dispatches p set values k.ready declared → (l : ℕ) × (values ≡ object_of n l ∷ [])
  pub runs_main : (set : SetId) (values : List Value) (declared : CoreDecl)
      → Dispatches p set values k.run declared
      → (values ≡ [])
      × ((text : Term)
      × (by_body p declared.body [] ≡ enters text (Call m.main (term.Value m.own ∷ []))))
  pub is_main : LeadsTo p m.main (m.own ∷ [])
      (testing n m (Read (slot.Location (location m.started))))
  pub own_declared : CoreDecl
  pub is_own : slice_get p.decls k.own_run.0 ≡ Some own_declared
  pub own_body : by_body p own_declared.body [] ≡ enters o.text o.body
  pub bare : Bare o.text
  pub own_call : LeadsTo p o.set [] o.body
  pub applies : (text : Term)
      × (act p (Apply (term.Value m.own) (term.Value unit)) ≡ enters text (Call o.set []))
  pub apart : ((n.queue == n.count) ≡ false) × ((n.queue == n.unended) ≡ false)
      × ((n.queue == m.started) ≡ false) × ((n.count == m.started) ≡ false)
      × ((n.unended == m.started) ≡ false)

-- What the prelude counts with besides: `>` and `-` of small numbers.
pub record Counts (p : Program) (n : Names) : Type 0 where
  pub greater : (a : ℕ) → a ≤ 65 → (c : DeclId) (declared : CoreDecl)
      → Dispatches p n.greater (Small (pos a) ∷ Small (pos 0) ∷ []) c declared
      → by_body p declared.body (Small (pos a) ∷ Small (pos 0) ∷ [])
      ≡ becomes (term.Value (Truth (nat_lt 0 a)))
  pub takes_one : (a : ℕ) → a ≤ 64 → (c : DeclId) (declared : CoreDecl)
      → Dispatches p n.minus (Small (pos (suc a)) ∷ Small (pos 1) ∷ []) c declared
      → by_body p declared.body (Small (pos (suc a)) ∷ Small (pos 1) ∷ [])
      ≡ becomes (term.Value (Small (pos a)))
