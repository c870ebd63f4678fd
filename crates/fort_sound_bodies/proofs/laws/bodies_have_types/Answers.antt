use Rattle.fort_sound_bodies.proofs.Bodies.{bodies_have_types}
use Rattle.fort_sound_bodies.proofs.laws.bodies_have_types.Goals as goal

pub returns : goal.returns
returns c = bodies_have_types
