use Rattle.std.proofs.Common.{◌≡◌, ◌++◌, take}
use Rattle.fort_tree.specs.Blocks.{next_names_tokens}
use Rattle.fort_yield.proofs.put.put_next_names.Given as goal

abbrev pub invariant-loop-next : goal.invariant-loop-next
invariant-loop-next l = l.out ≡ l.fn.out ++ next_names_tokens (take l.next-index l.names)
