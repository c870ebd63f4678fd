use Rattle.fort_member_fields.specs.Own.{next_field}
use Rattle.fort_member_fields.proofs.Walking.{map_more}
use Rattle.fort_member_fields.proofs.own.add_next_parameters.Goals as goal

pub loop-next-preserved : goal.loop-next-preserved
loop-next-preserved c =
    λ list h e. map_more (next_field list c.args.names.now) c.args.others.now c.loop-next.next-index
    c.next-item.result _ c.args.fields.now _ _ c.loop-next-test.true c.next-item.is
    (c.in_ok-field_of_parameter.ensures list h e) (c.loop-next.invariant list h e)
    c.in_ok-push.ensures.ok
