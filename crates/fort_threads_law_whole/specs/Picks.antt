-- Chapter "The machine with threads": the picks of the root, one by one.
use Rattle.std.specs.Prelude.{◌≡◌, ℕ, true, false, Bool, List, [], ◌∷◌, ◌++◌, Option, Some, None}
use Rattle.fort_core.specs.declared.pick.Pick.{Pick}
use Rattle.fort_core.specs.declared.program.Program.{Program}
use Rattle.fort_core.specs.declared.term.Term.{Term}
use Rattle.fort_core.specs.declared.value.Value.{Value}
use Rattle.fort_machine.specs.Attempts.{goes}
use Rattle.fort_machine.specs.Effects.{Store, Effect, FitsAll}
use Rattle.fort_machine.specs.Ends.{throw_of}
use Rattle.fort_machine.specs.Frames.{Frame, plug}
use Rattle.fort_machine.specs.Journals.{MakesWithinBounds}
use Rattle.fort_machine.specs.Parts.{IsOneOf}
use Rattle.fort_machine.specs.Proper.{Reached}
use Rattle.fort_machine.specs.Runs.{Runs}
use Rattle.fort_machine.specs.Threads.{under}
use Rattle.fort_machine.specs.Types.{has_type}
use Rattle.fort_threads.specs.Known.{Known}
use Rattle.fort_threads.specs.Threads.{Paths, going, Thread, thread}
use Rattle.fort_threads_law_servers.specs.Prelude.{Names}
use Rattle.fort_threads_law_servers.specs.Stages.{Stage, runs, Stands, Follows}
use Rattle.fort_threads_law_servers.specs.Roots.{Start, Served, root_term, all}
use Rattle.fort_threads_law_servers.specs.Trees.{Tree}
use Rattle.fort_threads_law_private.specs.Grounds.{Ground}
use Rattle.fort_threads_law_worlds.specs.Worlds.{World}
use Rattle.fort_threads_law_worlds.specs.Known.{Own}
use Rattle.fort_threads_law_runs.specs.Premises.{ThrowsFinely, IsThreaded}
use Rattle.fort_threads_law_runs.specs.Threads.{MayGo}
use Rattle.fort_threads_law_trees.specs.Leaves.{Leaf, leaf, leaves, yet, AreCalm}
use Rattle.fort_threads_law_whole.specs.Roots.{GoAlike, GoesOnAlike}

-- From a stage to the next one by no pick of a thread; and what a thread threw is an exception.
pub record IsOwnPick (p : Program) (n : Names) (stage next : Stage) : Type 0 where
  pub no_run : (l : ℕ) (u v : Term) → stage ≡ runs l u → next ≡ runs l v → ⊥
  pub exceptions : (l : ℕ) (v : Value) → stage ≡ runs l (throw_of v)
      → has_type p v n.exception ≡ true

-- By a pick of a server that is none of a thread, all goes on alike.
abbrev pub ServersGoOn : Type 0
ServersGoOn = (p : Program) (n : Names) (m : Start) (o : Own) (k : Known) (g : Ground)
    → IsThreaded p n m o k g
    → (w : World) (first : ℕ) (stage : Stage) (xs ys : List Leaf) (path : List ℕ) (old next : Stage)
    (rest : ℕ) (now : List Thread) (s t : Store) (q : Pick) (d : Effect)
    → GoAlike p n m o g w first stage (xs ++ leaf path old ∷ ys) rest now s t
    → Follows p n s q d old next → Stands n old → Stands n next → IsOwnPick p n old next → FitsAll d s
    → GoesOnAlike p n m o k g first stage (xs ++ leaf path next ∷ ys) rest now s t d

-- And so by one of `go'`.
abbrev pub FirstGoesOn : Type 0
FirstGoesOn = (p : Program) (n : Names) (m : Start) (o : Own) (k : Known) (g : Ground)
    → IsThreaded p n m o k g
    → (w : World) (first : ℕ) (stage next : Stage) (xs : List Leaf) (rest : ℕ)
    (now : List Thread) (s t : Store) (q : Pick) (d : Effect)
    → GoAlike p n m o g w first stage xs rest now s t
    → Follows p n s q d stage next → Stands n stage → Stands n next → IsOwnPick p n stage next
    → FitsAll d s → GoesOnAlike p n m o k g first next xs rest now s t d

-- A pick of a thread that is run, from a term to a term: it may go wherever it stands among the
-- threads.
pub record IsThreadPick (p : Program) (n : Names) (m : Start) (o : Own) (k : Known)
    (object : Option ℕ) (now : List Thread) (s t : Store) (q : Pick) (u v : Term) (d : Effect)
    : Type 0 where
  pub run : Runs p false false s (q ∷ []) u (goes v) d
  pub bounded : MakesWithinBounds d
  pub round : List Frame
  pub reached : Reached p false s (plug round u)
  pub finely : ThrowsFinely n m o v
  pub may_go : (before behind : List Thread) (x : Term) (asked : Paths)
      → now ≡ before ++ thread object (going x asked) ∷ behind
      → MayGo p k (before ++ behind) now s t u q

-- By a pick of a thread that a server runs, or `go'`, all goes on alike.
abbrev pub ThreadsGoOn : Type 0
ThreadsGoOn = (p : Program) (n : Names) (m : Start) (o : Own) (k : Known) (g : Ground)
    → IsThreaded p n m o k g
    → (w : World) (first : ℕ) (stage : Stage) (xs ys : List Leaf) (path : List ℕ) (l : ℕ)
    (u v : Term) (rest : ℕ) (now : List Thread) (s t : Store) (q : Pick) (d : Effect)
    → GoAlike p n m o g w first stage (xs ++ leaf path (runs l u) ∷ ys) rest now s t
    → IsThreadPick p n m o k (Some l) now s t q u v d
    → GoesOnAlike p n m o k g first stage (xs ++ leaf path (runs l v) ∷ ys) rest now s t d

abbrev pub FirstThreadGoesOn : Type 0
FirstThreadGoesOn = (p : Program) (n : Names) (m : Start) (o : Own) (k : Known) (g : Ground)
    → IsThreaded p n m o k g
    → (w : World) (first : ℕ) (xs : List Leaf) (l : ℕ) (u v : Term) (rest : ℕ)
    (now : List Thread) (s t : Store) (q : Pick) (d : Effect)
    → GoAlike p n m o g w first (runs l u) xs rest now s t
    → IsThreadPick p n m o k None now s t q u v d
    → GoesOnAlike p n m o k g first (runs l v) xs rest now s t d

-- The pick of a thread by the root's machine, which keeps the rule on sleeping forms, may go.
abbrev pub ThreadsMayGo : Type 0
ThreadsMayGo = (p : Program) (n : Names) (m : Start) (o : Own) (k : Known) (g : Ground)
    → IsThreaded p n m o k g
    → (w : World) (first : ℕ) (a b : Bool) (stage : Stage) (tree : Tree) (now : List Thread)
    (s t : Store) (l : ℕ) (u later : Term) (at : List ℕ) (q : Pick) (d : Effect)
    → GoAlike p n m o g w first stage (leaves [] tree) (yet tree) now s t
    → Served p n (all first a stage b tree) → AreCalm tree
    → IsOneOf (leaf at (runs l u)) (leaves [] tree)
    → Runs p false true s (under (1 ∷ at) q ∷ []) (root_term n m (all first a stage b tree)) (goes later) d
    → (before behind : List Thread) (v : Term) (asked : Paths)
    → now ≡ before ++ thread (Some l) (going v asked) ∷ behind
    → MayGo p k (before ++ behind) now s t u q

abbrev pub FirstMayGo : Type 0
FirstMayGo = (p : Program) (n : Names) (m : Start) (o : Own) (k : Known) (g : Ground)
    → IsThreaded p n m o k g
    → (w : World) (first : ℕ) (a b : Bool) (tree : Tree) (now : List Thread)
    (s t : Store) (l : ℕ) (u later : Term) (q : Pick) (d : Effect)
    → GoAlike p n m o g w first (runs l u) (leaves [] tree) (yet tree) now s t
    → Served p n (all first a (runs l u) b tree) → AreCalm tree
    → Runs p false true s (under (0 ∷ []) q ∷ []) (root_term n m (all first a (runs l u) b tree))
    (goes later) d
    → (before behind : List Thread) (v : Term) (asked : Paths)
    → now ≡ before ++ thread None (going v asked) ∷ behind
    → MayGo p k (before ++ behind) now s t u q
