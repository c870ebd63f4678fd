use Rattle.std.proofs.Common.{sym}
use Rattle.fort_tree.specs.Measures.{measured_type}
use Rattle.fort_tree_limits.proofs.EarliestLaws.{earliest_none, one_more}
use Rattle.fort_link_units.proofs.limits.Walk.next_parameters.Goals as goal

pub loop-next-init : goal.loop-next-init
loop-next-init c = sym (earliest_none _)

pub loop-next-preserved : goal.loop-next-preserved
loop-next-preserved c =
    one_more (λ next. measured_type next.parameter.ty) c.as_slice-next-items.result.now
    c.loop-next.next-index c.next-item.result c.args.self.now.earliest c.loop-next.self.earliest
    c.type_tree.new.self.earliest c.loop-next-test.true c.next-item.is c.loop-next.invariant
    c.type_tree.ensures
