use Rattle.fort_walk_stretch.proofs.steps.reads_by.Goals as goal

pub reads-requires-clause-may : goal.reads-requires-clause-may
reads-requires-clause-may c = c.requires.may c.in_ok-next.next c.in_ok-next.ensures
