use Rattle.fort_member.specs.Declarations.{declared_entries}
use Rattle.fort_member.specs.BuiltIn.{built_in_entries}
use Rattle.fort_member_fields.proofs.Walking.{flat_more}
use Rattle.fort_member.proofs.entries.entries_in.Goals as goal

pub loop-declared-preserved : goal.loop-declared-preserved
loop-declared-preserved c =
    λ list h e. flat_more (declared_entries list c.args.names.now) c.args.declarations.now
    c.loop-declared.declared-index c.declared-item.result (built_in_entries) _ _
    c.loop-declared-test.true c.declared-item.is (c.loop-declared.invariant list h e)
    (c.in_ok-add_entries.ensures list h e)
