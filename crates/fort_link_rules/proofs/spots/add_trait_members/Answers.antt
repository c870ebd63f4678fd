use Rattle.std.proofs.Common.{◌∷◌, ◌++◌, [], ap, ◌∙◌}
use Rattle.fort_tree.specs.declared.declarations.TraitEntry.{TraitEntry}
use Rattle.fort_tree.specs.Limits.{measured_trait_member}
use Rattle.fort_link_rules.proofs.Steps.{one_more_mapped}
use Rattle.fort_link_rules.proofs.spots.add_trait_members.Goals as goal

pub loop-entry-preserved : goal.loop-entry-preserved
loop-entry-preserved c =
    one_more_mapped (λ (e : TraitEntry). (measured_trait_member e.member).spot.place) c.args.members.now
    c.loop-entry.entry-index c.entry-item.result c.args.places.now c.loop-entry.places _
    c.loop-entry-test.true c.entry-item.is c.loop-entry.invariant (c.in_ok-push.ensures.ok
    ∙ ap (λ p. c.loop-entry.places ++ p ∷ []) c.place_of_trait_member.ensures)
