use Rattle.std.proofs.Common.{◌≡◌, take}
use Rattle.std.specs.Prelude.{map}
use Rattle.fort_tree.specs.Measured.{all_crowded}
use Rattle.fort_tree.specs.Measures.{measured_type}
use Rattle.fort_tree_limits.specs.Earliest.{earliest}
use Rattle.fort_link_units.proofs.limits.Walk.next_parameters.Given as goal

abbrev pub invariant-loop-next : goal.invariant-loop-next
invariant-loop-next l =
    l.self.earliest
    ≡ earliest l.fn.self.earliest
    (all_crowded (map (λ next. measured_type next.parameter.ty) (take l.next-index l.next-items)))
