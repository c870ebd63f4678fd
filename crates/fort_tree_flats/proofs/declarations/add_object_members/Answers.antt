use Rattle.fort_tree.specs.declared.declarations.ObjectEntry.{ObjectEntry}
use Rattle.fort_tree.specs.Limits.{measured_object_member}
use Rattle.fort_tree_flats.proofs.Lists.{one_more}
use Rattle.fort_tree_flats.proofs.declarations.add_object_members.Goals as goal

pub loop-entry-preserved : goal.loop-entry-preserved
loop-entry-preserved c =
    one_more (λ
    (e : ObjectEntry). measured_object_member e.member) c.args.members.now
    c.loop-entry.entry-index c.entry-item.result c.args.rows.now c.loop-entry.rows _
    c.loop-entry-test.true c.entry-item.is c.loop-entry.invariant
    c.in_ok-add_object_member.ensures
