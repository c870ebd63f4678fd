use Rattle.fort_plain.proofs.steps.step.Goals as goal

pub dealt-requires-clause-dealt : goal.dealt-requires-clause-dealt
dealt-requires-clause-dealt c = c.in_ok-deal.ensures
