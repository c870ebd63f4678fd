use Rattle.fort_hall_forms.proofs.Odd.{part_of_run}
use Rattle.fort_hall_forms.proofs.laws.part_of_run.Goals as goal

pub returns : goal.returns
returns c = part_of_run
