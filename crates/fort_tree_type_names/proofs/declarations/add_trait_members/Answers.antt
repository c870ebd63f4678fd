use Rattle.fort_tree.specs.declared.declarations.TraitEntry.{TraitEntry}
use Rattle.fort_tree_type_names.specs.TypeNames.{mentioned_trait_member}
use Rattle.fort_tree_type_names.proofs.Steps.{one_more}
use Rattle.fort_tree_type_names.proofs.declarations.add_trait_members.Goals as goal

pub loop-entry-preserved : goal.loop-entry-preserved
loop-entry-preserved c =
    one_more (λ
    (x : TraitEntry). mentioned_trait_member x.member) c.args.members.now
    c.loop-entry.entry-index c.entry-item.result c.args.names.now c.loop-entry.names _
    c.loop-entry-test.true c.entry-item.is c.loop-entry.invariant
    c.in_ok-add_trait_member.ensures
