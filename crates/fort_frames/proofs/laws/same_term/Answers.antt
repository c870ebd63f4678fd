use Rattle.fort_frames.proofs.Same.{same_term}
use Rattle.fort_frames.proofs.laws.same_term.Goals as goal

pub returns : goal.returns
returns c = same_term
