use Rattle.std.proofs.Common.{◌≡◌, ◌++◌, take}
use Rattle.std.specs.Prelude.{map}
use Rattle.fort_tree_type_names.specs.Mentioned.{all_mentioned}
use Rattle.fort_tree_type_names.specs.Mentions.{mentioned_next_type}
use Rattle.fort_tree_type_names.proofs.types.+types.Given as goal

abbrev pub invariant-add_next_types-loop-next : goal.invariant-add_next_types-loop-next
invariant-add_next_types-loop-next l =
    l.names ≡ l.fn.names ++ all_mentioned (map mentioned_next_type (take l.next-index l.types))
