-- Chapter "Store and effects" of docs/MACHINE.md: what a map from locations to values is to the
-- machine, and how many new locations it has room for.
use Rattle.std.specs.Prelude.{ℕ, ◌/◌, ◌%◌, ◌^◌, List, Option, Some, None, nat_eq}
use Rattle.std.specs.Option.{option_or}
use Rattle.indexmap.specs.IndexMap.{get, spare}
use Rattle.fort_core.specs.declared.value.Value.{Value}
use Rattle.fort_machine.specs.Effects as machine
use Rattle.fort_store.specs.declared.store.Store.{Store}
use Rattle.fort_store.specs.declared.tree.Tree.{Tree}
use Rattle.fort_store.specs.Trees.{branches}

-- What the trees of a store keep: a location's value stands in the tree of its range of 2^50
-- locations, by its number in the range.
abbrev pub settled : List (Option Tree) → machine.Store
settled trees = λ l. branches trees (l / 2 ^ 50) (l % 2 ^ 50)

-- What was put into a store since it was last shared.
abbrev pub written : Store → machine.Store
written s = get nat_eq s.recent

-- The machine's store that a store keeps: at each location, by its number, the value that was put
-- there since the store was last shared, or else the one that its trees keep, or none.
abbrev pub held : Store → machine.Store
held s = λ l. option_or (written s l) (settled s.trees.items l)

-- How many values can be put before memory is wanted.
abbrev pub room : Store → ℕ
room s = spare s.recent

-- How much room a value takes, by what was put at its location since the store was last shared: one
-- place where nothing was, else none.
abbrev pub taken_at : Option Value → ℕ
taken_at None = 1
taken_at (Some v) = 0
