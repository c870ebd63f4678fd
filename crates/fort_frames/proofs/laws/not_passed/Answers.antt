use Rattle.fort_frames.proofs.Same.{not_passed}
use Rattle.fort_frames.proofs.laws.not_passed.Goals as goal

pub returns : goal.returns
returns c = not_passed
