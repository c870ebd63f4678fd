use Rattle.fort_sound_typed.proofs.Laws.{one_definition}
use Rattle.fort_sound_typed.proofs.one_definition.Goals as goal

pub returns : goal.returns
returns c = one_definition
