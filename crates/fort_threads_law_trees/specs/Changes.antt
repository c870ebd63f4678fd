-- Chapter "The machine with threads": what a pick of a tree is to its servers.
use Rattle.std.specs.Prelude.{◌≡◌, ℕ, suc, List, [], ◌∷◌, ◌++◌}
use Rattle.fort_core.specs.declared.pick.Pick.{Pick}
use Rattle.fort_core.specs.declared.program.Program.{Program}
use Rattle.fort_core.specs.declared.term.Term.{Term}
use Rattle.fort_machine.specs.Effects.{Store, Effect, paid}
use Rattle.fort_machine.specs.Threads.{under}
use Rattle.fort_threads_law_servers.specs.Prelude.{Names}
use Rattle.fort_threads_law_servers.specs.Stages.{Stage, called, done, Follows}
use Rattle.fort_threads_law_servers.specs.Trees.{Tree}
use Rattle.fort_threads_law_trees.specs.Leaves.{Leaf, leaf, leaves, yet}

-- Each of these is done.
abbrev pub AreDone : List Leaf → Type 0
AreDone [] = Unit {0}
AreDone (x ∷ xs) = ((t : Term) × (x.stage ≡ done t)) × AreDone xs

-- A pick leads from a tree to a tree: no server is touched; one is called; one goes on, by a pick
-- of its own; or some that are done are left.
pub data Changes (p : Program) (n : Names) (s : Store) (pick : Pick) (d : Effect)
    (before after : Tree) : Type 0 where
  quietly : leaves [] after ≡ leaves [] before → yet after ≡ yet before → d ≡ paid 1
      → Changes p n s pick d before after
  calls : (xs ys : List Leaf) (path : List ℕ) → leaves [] before ≡ xs ++ ys
      → leaves [] after ≡ xs ++ leaf path called ∷ ys → yet before ≡ suc (yet after) → d ≡ paid 1
      → Changes p n s pick d before after
  goes : (xs ys : List Leaf) (path : List ℕ) (stage next : Stage) (q : Pick)
      → leaves [] before ≡ xs ++ leaf path stage ∷ ys
      → leaves [] after ≡ xs ++ leaf path next ∷ ys → yet after ≡ yet before
      → pick ≡ under path q → Follows p n s q d stage next → Changes p n s pick d before after
  leaves_done : (xs gone ys : List Leaf) → leaves [] before ≡ xs ++ (gone ++ ys)
      → leaves [] after ≡ xs ++ ys → AreDone gone → yet after ≡ yet before → d ≡ paid 1
      → Changes p n s pick d before after
