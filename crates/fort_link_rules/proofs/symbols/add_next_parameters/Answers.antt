use Rattle.fort_tree.specs.declared.declarations.NextParameter.{NextParameter}
use Rattle.fort_link_rules.specs.Symbols.{type_symbols}
use Rattle.fort_link_rules.proofs.Steps.{one_more}
use Rattle.fort_link_rules.proofs.symbols.add_next_parameters.Goals as goal

pub loop-next-preserved : goal.loop-next-preserved
loop-next-preserved c =
    one_more (λ
    (x : NextParameter). type_symbols x.parameter.ty) c.args.parameters.now
    c.loop-next.next-index c.next-item.result c.args.out.now c.loop-next.out _
    c.loop-next-test.true c.next-item.is c.loop-next.invariant
    c.in_ok-add_type.ensures
