use Rattle.std.proofs.Common.{◌∷◌, ◌++◌, [], ap, ◌∙◌}
use Rattle.fort_tree.specs.declared.declarations.ObjectEntry.{ObjectEntry}
use Rattle.fort_tree.specs.Limits.{measured_object_member}
use Rattle.fort_link_rules.proofs.Steps.{one_more_mapped}
use Rattle.fort_link_rules.proofs.spots.add_object_members.Goals as goal

pub loop-entry-preserved : goal.loop-entry-preserved
loop-entry-preserved c =
    one_more_mapped (λ (e : ObjectEntry). (measured_object_member e.member).spot.place) c.args.members.now
    c.loop-entry.entry-index c.entry-item.result c.args.places.now c.loop-entry.places _
    c.loop-entry-test.true c.entry-item.is c.loop-entry.invariant (c.in_ok-push.ensures.ok
    ∙ ap (λ p. c.loop-entry.places ++ p ∷ []) c.place_of_object_member.ensures)
