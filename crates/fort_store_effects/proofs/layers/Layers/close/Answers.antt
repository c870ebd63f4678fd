use Rattle.fort_store_effects.proofs.Closed.{room_parent}
use Rattle.fort_store_effects.proofs.layers.Layers.close.Goals as goal

pub merged-requires : goal.merged-requires
merged-requires c =
    room_parent c.args.self c.in-Some.layer c.in-Some-pop.parent c.pop.new.self c.in-Some.is
    c.in-Some-pop.ensures c.requires.room
