use Rattle.fort_machine.proofs.Effects.{steps_make_in_a_row}
use Rattle.fort_machine.proofs.steps_make_in_a_row.Goals as goal

pub returns : goal.returns
returns c = steps_make_in_a_row
