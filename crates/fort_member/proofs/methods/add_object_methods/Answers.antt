use Rattle.fort_member.specs.Declarations.{object_entry}
use Rattle.fort_member_fields.proofs.Walking.{flat_more}
use Rattle.fort_member.proofs.methods.add_object_methods.Goals as goal

pub loop-entry-preserved : goal.loop-entry-preserved
loop-entry-preserved c =
    λ list h e. flat_more (object_entry list c.args.names.now c.args.id.0) c.args.members.now
    c.loop-entry.entry-index c.entry-item.result c.args.entries.now _ _ c.loop-entry-test.true
    c.entry-item.is (c.loop-entry.invariant list h e)
    (c.in_ok-add_object_member.ensures list h e)
