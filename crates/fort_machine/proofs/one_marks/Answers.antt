use Rattle.fort_machine.proofs.Single.{one_marks}
use Rattle.fort_machine.proofs.one_marks.Goals as goal

pub returns : goal.returns
returns c = one_marks
