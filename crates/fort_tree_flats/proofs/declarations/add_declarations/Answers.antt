use Rattle.fort_tree.specs.declared.declarations.Declared.{Declared}
use Rattle.fort_tree.specs.Limits.{measured_declaration}
use Rattle.fort_tree_flats.proofs.Lists.{one_more}
use Rattle.fort_tree_flats.proofs.declarations.add_declarations.Goals as goal

pub loop-declared-preserved : goal.loop-declared-preserved
loop-declared-preserved c =
    one_more (λ
    (e : Declared). measured_declaration e.declaration) c.args.declarations.now
    c.loop-declared.declared-index c.declared-item.result c.args.rows.now c.loop-declared.rows _
    c.loop-declared-test.true c.declared-item.is c.loop-declared.invariant
    c.in_ok-add_declaration.ensures
