use Rattle.std.proofs.Common.{◌≡◌, ◌++◌, take}
use Rattle.std.specs.Prelude.{map}
use Rattle.fort_tree.specs.Said.{entries_tokens}
use Rattle.fort_tree.specs.Declarations.{said_object_entry}
use Rattle.fort_yield.proofs.members.put_object_entries.Given as goal

abbrev pub invariant-loop-entry : goal.invariant-loop-entry
invariant-loop-entry l =
    l.out ≡ l.fn.out ++ entries_tokens (map said_object_entry (take l.entry-index l.members))
