use Rattle.std.proofs.Common.{◌≡◌, take}
use Rattle.std.specs.List.{flat_map}
use Rattle.fort_tree.specs.Measured.{all_crowded}
use Rattle.fort_tree.specs.Limits.{measured_method_parameter}
use Rattle.fort_tree_limits.specs.Earliest.{earliest}
use Rattle.fort_tree_limits.proofs.walk.Walk.next_method_parameters.Given as goal

abbrev pub invariant-loop-next : goal.invariant-loop-next
invariant-loop-next l =
    l.self.earliest
    ≡ earliest l.fn.self.earliest
    (all_crowded
    (flat_map (λ next. measured_method_parameter next.parameter)
    (take l.next-index l.next-items)))
