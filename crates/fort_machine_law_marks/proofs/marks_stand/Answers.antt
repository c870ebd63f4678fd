use Rattle.fort_machine_law_marks.proofs.Kept.{marks_stand}
use Rattle.fort_machine_law_marks.proofs.marks_stand.Goals as goal

pub returns : goal.returns
returns c = marks_stand
