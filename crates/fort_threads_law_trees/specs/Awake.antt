-- Chapter "The machine with threads": who is awake in the root's term: a thread that a server runs,
-- where it is in the thread's own term; and a server that is free, where the queue isn't empty.
use Rattle.std.specs.Prelude.{◌≡◌, ℕ, false, List, [], ◌∷◌, ◌++◌, Some}
use Rattle.fort_base.specs.declared.ty.Ty.TheVariants.{Named}
use Rattle.fort_core.specs.declared.program.Program.{Program}
use Rattle.fort_core.specs.declared.term.Term.{Term, Asleep}
use Rattle.fort_core.specs.declared.value.Value.{Value}
use Rattle.fort_machine.specs.Attempts.{Awake}
use Rattle.fort_machine.specs.Effects.{Store}
use Rattle.fort_machine.specs.Marked.{Marks, In}
use Rattle.fort_machine.specs.Types.{has_type}
use Rattle.fort_threads_law_servers.specs.Prelude.{Names}
use Rattle.fort_threads_law_servers.specs.Stages.{Stage, trying}
use Rattle.fort_threads_law_trees.specs.Leaves.{Leaf}

-- Where the form of a server's attempt to take a thread sleeps, it watches the queue, in which there
-- was none.
abbrev pub WatchesQueue : Program → Names → Stage → Type 0
WatchesQueue p n (trying form) = (marks : Marks) (body : Term) → form ≡ Asleep marks body
    → (v : Value) × In n.queue v marks × (has_type p v (Named n.thread) ≡ false)
WatchesQueue p n _ = Unit {0}

abbrev pub AllWatch : Program → Names → List Leaf → Type 0
AllWatch p n [] = Unit {0}
AllWatch p n (x ∷ xs) = WatchesQueue p n x.stage × AllWatch p n xs
