use Rattle.fort_tree.specs.declared.declarations.NextObjectParameter.{NextObjectParameter}
use Rattle.fort_tree_type_names.specs.Mentions.{mentioned_type}
use Rattle.fort_tree_type_names.proofs.Steps.{one_more}
use Rattle.fort_tree_type_names.proofs.declarations.add_next_object_parameters.Goals as goal

pub loop-next-preserved : goal.loop-next-preserved
loop-next-preserved c =
    one_more (λ
    (x : NextObjectParameter). mentioned_type x.parameter.ty) c.args.parameters.now
    c.loop-next.next-index c.next-item.result c.args.names.now c.loop-next.names _
    c.loop-next-test.true c.next-item.is c.loop-next.invariant
    c.in_ok-add_type.ensures
