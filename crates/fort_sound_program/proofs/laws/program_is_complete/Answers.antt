use Rattle.fort_sound_program.proofs.Whole.{is_complete}
use Rattle.fort_sound_program.proofs.laws.program_is_complete.Goals as goal

pub returns : goal.returns
returns c = is_complete
