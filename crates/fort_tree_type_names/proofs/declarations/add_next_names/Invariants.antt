use Rattle.std.proofs.Common.{◌≡◌, ◌++◌, take}
use Rattle.std.specs.Prelude.{map}
use Rattle.fort_tree.specs.declared.spot.NextName.{NextName}
use Rattle.fort_tree_type_names.proofs.declarations.add_next_names.Given as goal

abbrev pub invariant-loop-next : goal.invariant-loop-next
invariant-loop-next l =
    l.names ≡ l.initial.names ++ map (λ (n : NextName). n.name) (take l.next-index l.others)
