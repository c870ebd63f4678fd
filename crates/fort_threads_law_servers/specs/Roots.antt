-- Chapter "The machine with threads": the root's term of a component with spawned threads: `main'`
-- round `go'`, which runs the component's own `run`, and round the servers.
use Rattle.std.specs.Prelude.{◌≡◌, ℕ, Bool, true, false, List, [], ◌∷◌, Some, pos, ◌⊎◌}
use Rattle.fort_base.specs.declared.ids.SetId.{SetId}
use Rattle.fort_base.specs.declared.ty.Ty.TheVariants.{Any, Named}
use Rattle.fort_core.specs.declared.form.Slot.TheVariants as slot
use Rattle.fort_core.specs.declared.pick.Pick.{Pick}
use Rattle.fort_core.specs.declared.program.Program.{Program}
use Rattle.fort_core.specs.declared.term.Term.{Term, Call, Apply, Let, Write, Then, If, Also}
use Rattle.fort_core.specs.declared.term.Term as term
use Rattle.fort_core.specs.declared.term.Term.TheVariants.{Variable, Read}
use Rattle.fort_core.specs.declared.value.Value.{Value, Small, Truth}
use Rattle.fort_machine.specs.Acts.{unit}
use Rattle.fort_machine.specs.Attempts.{goes}
use Rattle.fort_machine.specs.Effects.{Store, Effect, idle, paid, reading, writing, making, both, afterwards}
use Rattle.fort_machine.specs.Ends.{Finished, throw_of}
use Rattle.fort_machine.specs.Journals.{opening_store, IsRun}
use Rattle.fort_machine.specs.Runs.{Runs, location}
use Rattle.fort_machine.specs.Threads.{under}
use Rattle.fort_threads.specs.Moves.{opening_fields}
use Rattle.fort_threads_law_servers.specs.Prelude.{Names, object_of, number, LeadsTo, HasPrelude}
use Rattle.fort_threads_law_servers.specs.Stages.{Stage, sent, term_at, Stands, Follows}
use Rattle.fort_threads_law_servers.specs.Servers.{Serves}
use Rattle.fort_threads_law_servers.specs.Trees.{Tree, unread, with_step, tree_term, AllServe, IsOver, Grows}

-- The numbers that a program has for what its start needs: the sets of `run` and of `main'`, the
-- location of `started'`, and the function `fn () => run'()`.
pub record Start : Type 0 where
  pub run : SetId
  pub main : SetId
  pub started : ℕ
  pub own : Value

-- `r': Any = a` at the end of `main'`.
abbrev pub ending : Term → Term
ending a = Let ((3, Any) ∷ []) a (term.Value unit)

-- Behind the blocks beside each other: `r': Any = x.val()`.
abbrev pub last : Names → Term → Term
last n x = ending (Call n.val (x ∷ []))

-- `do go'(x) also do for .. end end`, and what is behind it.
abbrev pub blocks : Names → Term → Term
blocks n x = Then (Also (Call n.go (x ∷ []) ∷ tree_term n unread ∷ [])) (last n x)

-- `m': Thread' = a`, and what is behind it.
abbrev pub making_first : Names → Term → Term
making_first n a = Let ((1, Named n.thread) ∷ []) a (blocks n (Variable 1))

-- `open' := 1`, before it `started' := true`, and that in the `else` of `if a then b'()`.
abbrev pub opening : Names → Start → Term
opening n m =
    Then (Write (slot.Location (location n.unended)) (number 1))
    (making_first n (Call n.make (term.Value m.own ∷ [])))

abbrev pub starting : Names → Start → Term
starting n m =
    Then (Write (slot.Location (location m.started)) (term.Value (Truth true))) (opening n m)

abbrev pub testing : Names → Start → Term → Term
testing n m a = If a (Apply (term.Value m.own) (term.Value unit)) (starting n m)

-- A program starts with the prelude: its first term is the call of `run`, which leads to that of
-- `main'`; and a run begins before `started'`.
pub record Starts (p : Program) (n : Names) (m : Start) : Type 0 where
  pub is_first : p.first ≡ Call m.run []
  pub runs_main : LeadsTo p m.run [] (Call m.main (term.Value m.own ∷ []))
  pub is_main : LeadsTo p m.main (m.own ∷ [])
      (testing n m (Read (slot.Location (location m.started))))
  pub not_started : opening_store p m.started ≡ Some (Truth false)

-- How far the root's term is: the calls of `run` and of `main'`; the test of `started'`; both
-- assignments; the first object; all that goes on beside one another, `go'` and the servers, each
-- with its mark or without; that over; the last call of `val`; its end.
pub data Root : Type 0 where
  first_call : Root
  main_call : Root
  tests : Root
  told : Root
  sets_started : Root
  has_started : Root
  sets_open : Root
  has_open : Root
  makes_first : Root
  made_first : (object : ℕ) → Root
  all : (object : ℕ) (marked : Bool) (stage : Stage) (also_marked : Bool) (servers : Tree) → Root
  all_over : (object : ℕ) (end : Term) → Root
  asks : (form : Term) → Root
  ended : (end : Term) → Root

-- The root's term.
abbrev pub root_term : Names → Start → Root → Term
root_term n m first_call = Call m.run []
root_term n m main_call = Call m.main (term.Value m.own ∷ [])
root_term n m tests = testing n m (Read (slot.Location (location m.started)))
root_term n m told = testing n m (term.Value (Truth false))
root_term n m sets_started = starting n m
root_term n m has_started = Then (term.Value unit) (opening n m)
root_term n m sets_open = opening n m
root_term n m has_open =
    Then (term.Value unit) (making_first n (Call n.make (term.Value m.own ∷ [])))
root_term n m makes_first = making_first n (Call n.make (term.Value m.own ∷ []))
root_term n m (made_first l) = making_first n (term.Value (object_of n l))
root_term n m (all l a stage b tree) =
    Then (Also (with_step a (term_at n stage) ∷ with_step b (tree_term n tree) ∷ []))
    (last n (term.Value (object_of n l)))
root_term n m (all_over l t) = Then t (last n (term.Value (object_of n l)))
root_term n m (asks t) = ending t
root_term n m (ended t) = t

-- Each that serves came to its stage from its call on, stage by stage: `go'` with the first object,
-- and the servers.
abbrev pub Served : Program → Names → Root → Type 0
Served p n (all l a stage b tree) =
    Stands n stage × Serves p n (sent l) stage × AllServe p n tree
Served p n (all_over l t) = Finished t
Served p n (ended t) = Finished t
Served p n _ = Unit {0}

-- A pick of the root leads from here to there and does this. While all goes on, it is one of `go'`
-- or of one server.
abbrev pub Leads : Program → Names → Start → Store → Pick → Effect → Root → Root → Type 0
Leads p n m s pick d first_call main_call = d ≡ paid 1
Leads p n m s pick d main_call tests = d ≡ paid 1
Leads p n m s pick d tests told = d ≡ reading m.started (Truth false)
Leads p n m s pick d told sets_started = d ≡ paid 1
Leads p n m s pick d sets_started has_started = d ≡ writing m.started (Truth true)
Leads p n m s pick d has_started sets_open = d ≡ paid 1
Leads p n m s pick d sets_open has_open = d ≡ writing n.unended (Small (pos 1))
Leads p n m s pick d has_open makes_first = d ≡ paid 1
Leads p n m s pick d makes_first (made_first l) = d ≡ making l (opening_fields m.own) 1
Leads p n m s pick d (made_first l) (all k a stage b tree) =
    (k ≡ l) × (a ≡ false) × (stage ≡ sent l) × (b ≡ false) × (tree ≡ unread) × (d ≡ paid 1)
Leads p n m s pick d (all l a stage b tree) (all k a' next b' grown) =
    (k ≡ l)
    × (((q : Pick) × (pick ≡ under (0 ∷ []) q) × Follows p n s q d stage next × (a' ≡ true)
    × (b' ≡ b) × (grown ≡ tree))
    ⊎ ((q : Pick) × (pick ≡ under (1 ∷ []) q) × Grows p n s q d tree grown × (a' ≡ a)
    × (next ≡ stage) × (b' ≡ true)))
Leads p n m s pick d (all l a stage b tree) (all_over k t) =
    (k ≡ l) × IsOver (with_step a (term_at n stage)) (with_step b (tree_term n tree)) t × (d ≡ paid 1)
Leads p n m s pick d (all_over l t) (asks u) =
    (u ≡ Call n.val (term.Value (object_of n l) ∷ [])) × (d ≡ paid 1)
Leads p n m s pick d (all_over l t) (ended u) =
    (u ≡ t) × ((v : Value) × (t ≡ throw_of v)) × (d ≡ paid 1)
Leads p n m s pick d (asks t) (asks u) = Runs p false false s (pick ∷ []) t (goes u) d
Leads p n m s pick d (asks t) (ended u) =
    (((v : Value) × (t ≡ term.Value v) × (u ≡ term.Value unit))
    ⊎ ((v : Value) × (t ≡ throw_of v) × (u ≡ throw_of v)))
    × (d ≡ paid 1)
Leads p n m s pick d _ _ = ⊥

-- The root goes on by picks, one after the other.
pub data Course (p : Program) (n : Names) (m : Start) : (s : Store) (picks : List Pick)
    (from to : Root) (d : Effect) → Type 0 where
  rests : {s : Store} {picks : List Pick} {from to : Root} {d : Effect}
      → picks ≡ [] → to ≡ from → d ≡ idle → Course p n m s picks from to d
  goes_on : {s : Store} {picks rest : List Pick} {from to : Root} {d : Effect} (next : Root)
      (pick : Pick) (e f : Effect)
      → picks ≡ pick ∷ rest → Leads p n m s pick e from next
      → Course p n m (afterwards e s) rest next to f → d ≡ both e f
      → Course p n m s picks from to d

-- So each run of a program with the prelude goes: at each time the root's term is `main'` round
-- `go'` and servers, each of which came to its stage, stage by stage.
abbrev pub EachRunIsServed : Type 0
EachRunIsServed = (p : Program) (n : Names) (m : Start) → HasPrelude p n → Starts p n m
    → (picks : List Pick) (t : Term) (d : Effect) → IsRun p picks t d
    → (to : Root) × (t ≡ root_term n m to) × Served p n to
    × Course p n m (opening_store p) picks first_call to d
