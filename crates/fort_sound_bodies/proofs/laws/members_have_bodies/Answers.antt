use Rattle.fort_sound_bodies.proofs.Members.{members_have_bodies}
use Rattle.fort_sound_bodies.proofs.laws.members_have_bodies.Goals as goal

pub returns : goal.returns
returns c = members_have_bodies
