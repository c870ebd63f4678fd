use Rattle.fort_group.proofs.Ordered.{ordered_law}
use Rattle.fort_group.proofs.answer.groupings_are_in_order.Goals as goal

pub returns : goal.returns
returns c = ordered_law
