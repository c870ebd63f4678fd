use Rattle.std.proofs.Common.{◌≡◌, ◌++◌, take}
use Rattle.std.specs.Prelude.{map}
use Rattle.fort_tree.specs.Said.{all_tokens}
use Rattle.fort_tree.specs.Types.{said_next_parameter}
use Rattle.fort_yield.proofs.types.put_next_parameters.Given as goal

abbrev pub invariant-loop-next : goal.invariant-loop-next
invariant-loop-next l =
    l.out ≡ l.fn.out ++ all_tokens (map said_next_parameter (take l.next-index l.others))
