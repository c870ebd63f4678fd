use Rattle.fort_frames.proofs.Same.{clock_marks}
use Rattle.fort_frames.proofs.laws.clock_marks.Goals as goal

pub returns : goal.returns
returns c = clock_marks
