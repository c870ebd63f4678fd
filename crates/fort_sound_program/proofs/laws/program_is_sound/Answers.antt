use Rattle.fort_sound_program.proofs.Whole.{is_sound}
use Rattle.fort_sound_program.proofs.laws.program_is_sound.Goals as goal

pub returns : goal.returns
returns c = is_sound
