use Rattle.fort_sound_typed.proofs.Laws.{no_run_is_stuck}
use Rattle.fort_sound_typed.proofs.no_run_is_stuck.Goals as goal

pub returns : goal.returns
returns c = no_run_is_stuck
