use Rattle.fort_member_fields.proofs.Walking.{flat_more}
use Rattle.fort_form_walk.specs.FormsOf.{next_named_parameter}
use Rattle.fort_form_walk.specs.Reading.{tables}
use Rattle.fort_form_walk.proofs.methods.add_others.Goals as goal

pub loop-next-preserved : goal.loop-next-preserved
loop-next-preserved c =
    flat_more (next_named_parameter (tables c.args.lookup.now)) c.args.others.now
    c.loop-next.next-index c.next-item.result c.args.made.now _ _ c.loop-next-test.true
    c.next-item.is c.loop-next.invariant c.in_ok-add_named.ensures
