use Rattle.fort_tree.specs.declared.declarations.TraitEntry.{TraitEntry}
use Rattle.fort_tree.specs.Limits.{measured_trait_member}
use Rattle.fort_tree_flats.proofs.Lists.{one_more}
use Rattle.fort_tree_flats.proofs.declarations.add_trait_members.Goals as goal

pub loop-entry-preserved : goal.loop-entry-preserved
loop-entry-preserved c =
    one_more (λ
    (e : TraitEntry). measured_trait_member e.member) c.args.members.now
    c.loop-entry.entry-index c.entry-item.result c.args.rows.now c.loop-entry.rows _
    c.loop-entry-test.true c.entry-item.is c.loop-entry.invariant
    c.in_ok-add_trait_member.ensures
