use Rattle.fort_form_walk.proofs.groupings.GroupsByPlace.at.Goals as goal

pub by_halves-requires : goal.by_halves-requires
by_halves-requires c = c.args.self.now.ordered c.if-self.true
