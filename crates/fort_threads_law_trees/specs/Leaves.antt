-- Chapter "The machine with threads": the servers of a tree, and what each holds.
use Rattle.std.specs.Prelude.{◌≡◌, ℕ, ◌+◌, Bool, true, false, List, [], ◌∷◌, ◌++◌, map, sum}
use Rattle.fort_base.specs.declared.ids.TypeId.{TypeId}
use Rattle.fort_core.specs.declared.term.Term.{Term}
use Rattle.fort_core.specs.declared.term.Term as term
use Rattle.fort_core.specs.declared.term.Term.TheOpen.{Value-F}
use Rattle.fort_core.specs.declared.value.Closure.{Closure}
use Rattle.fort_core.specs.declared.value.Value.{Value, out-Value}
use Rattle.fort_threads_law_servers.specs.Stages.{Stage, called, asking, trying, got, refused, looking, sent, reads, runs, caught, lost, keeps, has_kept, marks, has_marked, counts, done}
use Rattle.fort_threads_law_servers.specs.Stages as stages
use Rattle.fort_threads_law_servers.specs.Trees.{Tree, unread, undivided, server, halves, over, count_of}

-- A server of a tree: the path of its part, and its stage.
pub record Leaf : Type 0 where
  pub path : List ℕ
  pub stage : Stage

abbrev pub leaf : List ℕ → Stage → Leaf
leaf path stage = record { path = path; stage = stage }

-- The servers of a tree that stands at a path, from left to right.
abbrev pub leaves : List ℕ → Tree → List Leaf
leaves path unread = []
leaves path (undivided items) = []
leaves path (server stage) = leaf path stage ∷ []
leaves path (halves m a k b) = leaves (path ++ 0 ∷ []) a ++ leaves (path ++ 1 ∷ []) b
leaves path (over t) = []

-- How many servers are yet to be called.
abbrev pub yet : Tree → ℕ
yet unread = 64
yet (undivided items) = count_of items
yet (server stage) = 0
yet (halves m a k b) = yet a + yet b
yet (over t) = 0

-- The location of an object.
abbrev pub object_in : Value-F Term Value Closure → List ℕ
object_in (Value-F.Object id base) = base.0 ∷ []
object_in _ = []

-- The object of a thread that a server has taken and not begun.
abbrev pub waiting : Stage → List ℕ
waiting (got v) = object_in (out-Value v)
waiting (looking v) = object_in (out-Value v)
waiting (sent l) = l ∷ []
waiting (reads l) = l ∷ []
waiting _ = []

-- The object of a thread that a server runs, or whose end it is about to mark.
abbrev pub running : Stage → List ℕ
running (runs l t) = l ∷ []
running (caught l v) = l ∷ []
running (keeps l end) = l ∷ []
running (has_kept l end) = l ∷ []
running (marks l end) = l ∷ []
running _ = []

-- The object of a thread that a server has taken, whose end it hasn't marked.
abbrev pub held : Stage → List ℕ
held stage = waiting stage ++ running stage

abbrev pub all_held : List Leaf → List ℕ
all_held [] = []
all_held (x ∷ xs) = held x.stage ++ all_held xs

-- A server has yet to take a thread.
abbrev pub is_free : Stage → ℕ
is_free called = 1
is_free asking = 1
is_free (trying form) = 1
is_free _ = 0

-- A server has a thread, taken off the queue, for which it hasn't counted down yet.
abbrev pub one_or_none : List ℕ → ℕ
one_or_none [] = 0
one_or_none (l ∷ ls) = 1

abbrev pub owes : Stage → ℕ
owes (has_marked l end) = 1
owes stages.leaves = 1
owes (counts form) = 1
owes (lost v) = 1
owes stage = one_or_none (held stage)

abbrev pub free_in : List Leaf → ℕ
free_in xs = sum (map (λ (x : Leaf). is_free x.stage) xs)

abbrev pub owed_in : List Leaf → ℕ
owed_in xs = sum (map (λ (x : Leaf). owes x.stage) xs)

-- A server is calm: it was not refused, has lost no throw, and where it is done came to a value.
abbrev pub IsCalm : Stage → Type 0
IsCalm (refused v) = ⊥
IsCalm (lost v) = ⊥
IsCalm (done t) = (v : Value) × (t ≡ term.Value v)
IsCalm _ = Unit {0}

-- So is each of a tree, and what is over came to a value.
abbrev pub AreCalm : Tree → Type 0
AreCalm unread = Unit {0}
AreCalm (undivided items) = Unit {0}
AreCalm (server stage) = IsCalm stage
AreCalm (halves m a k b) = AreCalm a × AreCalm b
AreCalm (over t) = (v : Value) × (t ≡ term.Value v)
