use Rattle.fort_form_tasks.proofs.Steps.{part_seen}
use Rattle.fort_form_tasks.proofs.further.see.Goals as goal

pub returns : goal.returns
returns c = λ k. part_seen k c.args.part c.in_ok-push.ensures
