use Rattle.fort_sound.proofs.Accepted.{accepted_tree}
use Rattle.fort_sound.proofs.laws.accepted_tree_is_sound.Goals as goal

pub returns : goal.returns
returns c = accepted_tree c.keepers_are_sound.ensures
