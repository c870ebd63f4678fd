use Rattle.fort_frames.proofs.Same.{same_thread}
use Rattle.fort_frames.proofs.laws.same_thread.Goals as goal

pub returns : goal.returns
returns c = same_thread
