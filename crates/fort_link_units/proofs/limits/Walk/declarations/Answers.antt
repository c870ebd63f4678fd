use Rattle.std.proofs.Common.{sym}
use Rattle.fort_link_units.specs.Limits.{measured_api_declaration}
use Rattle.fort_tree_limits.proofs.EarliestLaws.{earliest_none, one_more}
use Rattle.fort_link_units.proofs.limits.Walk.declarations.Goals as goal

pub loop-declared-init : goal.loop-declared-init
loop-declared-init c = sym (earliest_none _)

pub loop-declared-preserved : goal.loop-declared-preserved
loop-declared-preserved c =
    one_more (λ d. measured_api_declaration d.declaration) c.as_slice-declared-items.result.now
    c.loop-declared.declared-index c.declared-item.result c.args.self.now.earliest
    c.loop-declared.self.earliest c.declaration.new.self.earliest c.loop-declared-test.true
    c.declared-item.is c.loop-declared.invariant c.declaration.ensures
