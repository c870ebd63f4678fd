use Rattle.fort_group.proofs.Once.{one_at_most}
use Rattle.fort_group.proofs.answer.one_grouping_at_most.Goals as goal

pub returns : goal.returns
returns c = one_at_most
