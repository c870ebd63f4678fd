use Rattle.fort_front_law_decided.proofs.Groupings.{groups_or_break}
use Rattle.fort_front_law_decided.proofs.phases.grouping_decides.Goals as goal

pub returns : goal.returns
returns c = groups_or_break c.one_answer.ensures.some c.one_answer.ensures.apart
