use Rattle.fort_sound_typed.proofs.Laws.{thrown_is_object}
use Rattle.fort_sound_typed.proofs.thrown_is_object.Goals as goal

pub returns : goal.returns
returns c = thrown_is_object
