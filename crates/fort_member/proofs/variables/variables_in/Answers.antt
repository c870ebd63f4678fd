use Rattle.std.proofs.Common.{[]}
use Rattle.fort_member_fields.specs.Own.{declared_variables}
use Rattle.fort_member_fields.proofs.Walking.{flat_more}
use Rattle.fort_member.proofs.variables.variables_in.Goals as goal

pub loop-declared-preserved : goal.loop-declared-preserved
loop-declared-preserved c =
    λ list h e. flat_more (declared_variables list c.args.names.now) c.args.declarations.now
    c.loop-declared.declared-index c.declared-item.result [] _ _ c.loop-declared-test.true
    c.declared-item.is (c.loop-declared.invariant list h e)
    (c.in_ok-add_variable.ensures list h e)
