use Rattle.fort_frames.proofs.Same.{node_is_form}
use Rattle.fort_frames.proofs.laws.node_is_form.Goals as goal

pub returns : goal.returns
returns c = node_is_form
