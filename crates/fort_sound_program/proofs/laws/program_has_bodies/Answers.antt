use Rattle.fort_sound_program.proofs.Bodies.{bodies_have}
use Rattle.fort_sound_program.proofs.laws.program_has_bodies.Goals as goal

pub returns : goal.returns
returns c = bodies_have
