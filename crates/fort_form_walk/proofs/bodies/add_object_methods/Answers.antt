use Rattle.fort_member_fields.proofs.Walking.{flat_more}
use Rattle.fort_form_walk.specs.FormsOf.{object_body}
use Rattle.fort_form_walk.specs.Reading.{tables}
use Rattle.fort_form_walk.proofs.bodies.add_object_methods.Goals as goal

pub loop-entry-preserved : goal.loop-entry-preserved
loop-entry-preserved c =
    flat_more (object_body (tables c.args.lookup.now) c.args.id) c.args.members.now
    c.loop-entry.entry-index c.entry-item.result c.args.made.now _ _ c.loop-entry-test.true
    c.entry-item.is c.loop-entry.invariant c.in_ok-add_of_object.ensures
