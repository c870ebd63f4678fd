use Rattle.std.proofs.Common.{sym}
use Rattle.fort_tree.specs.Limits.{measured_method_parameter}
use Rattle.fort_tree_limits.proofs.EarliestLaws.{earliest_none}
use Rattle.fort_tree_limits.proofs.DeclarationWalks.{one_more_of_all}
use Rattle.fort_tree_limits.proofs.walk.Walk.next_method_parameters.Goals as goal

pub loop-next-init : goal.loop-next-init
loop-next-init c = sym (earliest_none _)

pub loop-next-preserved : goal.loop-next-preserved
loop-next-preserved c =
    one_more_of_all (λ next. measured_method_parameter next.parameter)
    c.as_slice-next-items.result.now c.loop-next.next-index c.next-item.result
    c.args.self.now.earliest c.loop-next.self.earliest c.method_parameter.new.self.earliest
    c.loop-next-test.true c.next-item.is c.loop-next.invariant c.method_parameter.ensures
