use Rattle.fort_sound_typed.proofs.Laws.{runs_keep}
use Rattle.fort_sound_typed.proofs.runs_keep.Goals as goal

pub returns : goal.returns
returns c = runs_keep
