use Rattle.fort_tree.specs.declared.declarations.ObjectEntry.{ObjectEntry}
use Rattle.fort_tree_atoms.specs.AtomNames.{atoms_of_object_member}
use Rattle.fort_tree_atoms.proofs.Steps.{one_more}
use Rattle.fort_tree_atoms.proofs.declarations.add_object_members.Goals as goal

pub loop-entry-preserved : goal.loop-entry-preserved
loop-entry-preserved c =
    one_more (λ
    (x : ObjectEntry). atoms_of_object_member x.member) c.args.members.now
    c.loop-entry.entry-index c.entry-item.result c.args.names.now c.loop-entry.names _
    c.loop-entry-test.true c.entry-item.is c.loop-entry.invariant
    c.in_ok-add_object_member.ensures
