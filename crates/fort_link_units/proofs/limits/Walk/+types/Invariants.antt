use Rattle.std.proofs.Common.{◌≡◌, take}
use Rattle.std.specs.Prelude.{map}
use Rattle.fort_tree.specs.Measured.{all_crowded}
use Rattle.fort_tree.specs.Measures.{measured_next_type}
use Rattle.fort_tree_limits.specs.Earliest.{earliest}
use Rattle.fort_link_units.proofs.limits.Walk.+types.Given as goal

abbrev pub invariant-next_types-loop-next : goal.invariant-next_types-loop-next
invariant-next_types-loop-next l =
    l.self.earliest
    ≡ earliest l.fn.self.earliest
    (all_crowded (map measured_next_type (take l.next-index l.next-items)))
