use Rattle.std.proofs.Common.{◌≡◌, ◌++◌, take}
use Rattle.std.specs.Prelude.{map}
use Rattle.fort_tree.specs.Said.{all_tokens}
use Rattle.fort_tree.specs.Declarations.{said_next_method_parameter}
use Rattle.fort_yield.proofs.members.put_next_method_parameters.Given as goal

abbrev pub invariant-loop-next : goal.invariant-loop-next
invariant-loop-next l =
    l.out ≡ l.fn.out ++ all_tokens (map said_next_method_parameter (take l.next-index l.others))
