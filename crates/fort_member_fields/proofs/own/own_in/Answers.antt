use Rattle.std.proofs.Common.{[]}
use Rattle.std.specs.Prelude.{replicate}
use Rattle.fort_types_builtin.specs.declared.types.TheConstants.{TYPE_COUNT}
use Rattle.fort_member_fields.specs.Own.{declared_own}
use Rattle.fort_member_fields.proofs.Walking.{flat_more}
use Rattle.fort_member_fields.proofs.own.own_in.Goals as goal

pub loop-declared-preserved : goal.loop-declared-preserved
loop-declared-preserved c =
    λ list h e. flat_more (declared_own list c.args.names.now) c.args.declarations.now
    c.loop-declared.declared-index c.declared-item.result (replicate TYPE_COUNT []) _ _
    c.loop-declared-test.true c.declared-item.is (c.loop-declared.invariant list h e)
    (c.in_ok-add_own.ensures list h e)
