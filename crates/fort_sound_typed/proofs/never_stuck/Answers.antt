use Rattle.fort_sound_typed.proofs.Laws.{never_stuck}
use Rattle.fort_sound_typed.proofs.never_stuck.Goals as goal

pub returns : goal.returns
returns c = never_stuck
