use Rattle.fort_member.specs.Declarations.{next_object_parameter_type}
use Rattle.fort_member_fields.proofs.Walking.{map_more}
use Rattle.fort_member.proofs.functions.add_next_of_object.Goals as goal

pub loop-next-preserved : goal.loop-next-preserved
loop-next-preserved c =
    λ list h e. map_more (next_object_parameter_type list c.args.names.now) c.args.others.now
    c.loop-next.next-index c.next-item.result _ c.args.types.now _ _ c.loop-next-test.true
    c.next-item.is
    (c.in_ok-written_type.ensures list h e) (c.loop-next.invariant list h e) c.in_ok-push.ensures.ok
