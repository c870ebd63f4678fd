use Rattle.fort_tree.specs.declared.declarations.Declared.{Declared}
use Rattle.fort_tree_atoms.specs.AtomNames.{atoms_of_declaration}
use Rattle.fort_tree_atoms.proofs.Steps.{one_more}
use Rattle.fort_tree_atoms.proofs.declarations.add_declarations.Goals as goal

pub loop-declared-preserved : goal.loop-declared-preserved
loop-declared-preserved c =
    one_more (λ
    (x : Declared). atoms_of_declaration x.declaration) c.args.declarations.now
    c.loop-declared.declared-index c.declared-item.result c.args.names.now c.loop-declared.names _
    c.loop-declared-test.true c.declared-item.is c.loop-declared.invariant
    c.in_ok-add_declaration.ensures
