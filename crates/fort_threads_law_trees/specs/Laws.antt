-- Chapter "The machine with threads": the servers of a tree, pick by pick.
use Rattle.std.specs.Prelude.{◌≡◌, ℕ, ◌+◌, ◌<◌, true, Bool, List, [], ◌∷◌, ◌++◌, Some}
use Rattle.fort_base.specs.declared.ty.Ty.TheVariants.{Named}
use Rattle.fort_core.specs.declared.pick.Pick.{Pick}
use Rattle.fort_core.specs.declared.program.Program.{Program}
use Rattle.fort_core.specs.declared.value.Value.{Value}
use Rattle.fort_core.specs.declared.term.Term.{Term}
use Rattle.fort_machine.specs.Attempts.{Awake}
use Rattle.fort_machine.specs.Effects.{Store, Effect}
use Rattle.fort_machine.specs.Parts.{IsOneOf}
use Rattle.fort_machine.specs.Types.{has_type}
use Rattle.fort_threads_law_servers.specs.Prelude.{Names, HasPrelude, round}
use Rattle.fort_threads_law_servers.specs.Roots.{Start, Served, root_term, all}
use Rattle.fort_threads_law_servers.specs.Stages.{Stage, runs}
use Rattle.fort_threads_law_servers.specs.Trees.{Tree, AllServe, Grows}
use Rattle.fort_threads_law_trees.specs.Leaves.{Leaf, leaf, leaves, yet, is_free, waiting, free_in, IsCalm, AreCalm}
use Rattle.fort_threads_law_trees.specs.Changes.{Changes}
use Rattle.fort_threads_law_trees.specs.Awake.{AllWatch}

-- Each pick of a tree in which all are calm changes at most one server, or leaves some that are done.
abbrev pub EachPickChanges : Type 0
EachPickChanges = (p : Program) (n : Names) (s : Store) (pick : Pick) (d : Effect)
    (before after : Tree) → AllServe p n before → AreCalm before → Grows p n s pick d before after
    → Changes p n s pick d before after

-- Who is awake in the term of a thread that a server runs, or `go'`, is awake in the root's term, at
-- the server's path and then its own.
abbrev pub ThreadsAreAwake : Type 0
ThreadsAreAwake = (p : Program) (n : Names) (m : Start) (l : ℕ) (a b : Bool) (stage : Stage)
    (tree : Tree) (s : Store) → Served p n (all l a stage b tree) → IsCalm stage → AreCalm tree
    → ((k : ℕ) (t : Term) (path : List ℕ) → stage ≡ runs k t → Awake s t path
    → Awake s (root_term n m (all l a stage b tree)) (0 ∷ path))
    × ((k : ℕ) (t : Term) (at path : List ℕ) → IsOneOf (leaf at (runs k t)) (leaves [] tree)
    → Awake s t path → Awake s (root_term n m (all l a stage b tree)) (1 ∷ (at ++ path)))

-- Where the queue holds a thread and a server is free or yet to be called, somebody is awake there,
-- at no path of a thread that is run.
abbrev pub FreeServersAreAwake : Type 0
FreeServersAreAwake = (p : Program) (n : Names) (m : Start) (l : ℕ) (a b : Bool) (stage : Stage)
    (tree : Tree) (s : Store) (v : Value) → HasPrelude p n → Served p n (all l a stage b tree)
    → IsCalm stage → AreCalm tree → AllWatch p n (leaves [] tree)
    → s n.queue ≡ Some v → has_type p v (Named n.thread) ≡ true
    → 0 < free_in (leaves [] tree) + yet tree
    → (path : List ℕ) × Awake s (root_term n m (all l a stage b tree)) (1 ∷ path)
    × ((at q : List ℕ) (k : ℕ) (t : Term) → IsOneOf (leaf at (runs k t)) (leaves [] tree)
    → path ≡ at ++ q → ⊥)

-- And a server that has taken a thread and not begun it is awake, at its path or below it.
abbrev pub TakersAreAwake : Type 0
TakersAreAwake = (p : Program) (n : Names) (m : Start) (l : ℕ) (a b : Bool) (stage : Stage)
    (tree : Tree) (s : Store) → HasPrelude p n → Served p n (all l a stage b tree) → IsCalm stage
    → AreCalm tree → (at : List ℕ) (taker : Stage) (k : ℕ)
    → IsOneOf (leaf at taker) (leaves [] tree) → IsOneOf k (waiting taker)
    → (rest : List ℕ) × Awake s (root_term n m (all l a stage b tree)) (1 ∷ (at ++ rest))

-- The paths of two servers of a tree aren't one behind the other.
abbrev pub LeavesStandApart : Type 0
LeavesStandApart = (tree : Tree) (x y : Leaf) (q r : List ℕ) → IsOneOf x (leaves [] tree)
    → IsOneOf y (leaves [] tree) → x.path ++ q ≡ y.path ++ r → x ≡ y
