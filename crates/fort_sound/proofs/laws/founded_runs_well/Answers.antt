use Rattle.fort_sound.proofs.Accepted.{founded_runs_well}
use Rattle.fort_sound.proofs.laws.founded_runs_well.Goals as goal

pub returns : goal.returns
returns c =
    founded_runs_well c.reached_is_typed.ensures c.reached_is_one.ensures c.no_run_is_stuck.ensures
