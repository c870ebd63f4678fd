use Rattle.fort_tree.specs.declared.declarations.NextMethodParameter.{NextMethodParameter}
use Rattle.fort_tree_type_names.specs.TypeNames.{mentioned_method_parameter}
use Rattle.fort_tree_type_names.proofs.Steps.{one_more}
use Rattle.fort_tree_type_names.proofs.declarations.add_next_method_parameters.Goals as goal

pub loop-next-preserved : goal.loop-next-preserved
loop-next-preserved c =
    one_more (λ
    (x : NextMethodParameter). mentioned_method_parameter x.parameter) c.args.parameters.now
    c.loop-next.next-index c.next-item.result c.args.names.now c.loop-next.names _
    c.loop-next-test.true c.next-item.is c.loop-next.invariant
    c.in_ok-add_method_parameter.ensures
