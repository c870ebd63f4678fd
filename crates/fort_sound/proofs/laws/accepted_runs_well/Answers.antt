use Rattle.fort_sound.proofs.Accepted.{runs_well}
use Rattle.fort_sound.proofs.laws.accepted_runs_well.Goals as goal

pub returns : goal.returns
returns c = runs_well c.accepted_is_sound.ensures c.founded_runs_well.ensures
