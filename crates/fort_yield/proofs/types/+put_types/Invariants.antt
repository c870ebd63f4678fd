use Rattle.std.proofs.Common.{◌≡◌, ◌++◌, take}
use Rattle.std.specs.Prelude.{map}
use Rattle.fort_tree.specs.Said.{all_tokens}
use Rattle.fort_tree.specs.Types.{said_next_type}
use Rattle.fort_yield.proofs.types.+put_types.Given as goal

abbrev pub invariant-put_next_types-loop-next : goal.invariant-put_next_types-loop-next
invariant-put_next_types-loop-next l =
    l.out ≡ l.fn.out ++ all_tokens (map said_next_type (take l.next-index l.others))
