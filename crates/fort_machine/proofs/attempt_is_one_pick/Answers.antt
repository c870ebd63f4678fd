use Rattle.fort_machine.proofs.Picks.{attempt_is_one_pick}
use Rattle.fort_machine.proofs.attempt_is_one_pick.Goals as goal

pub returns : goal.returns
returns c = attempt_is_one_pick
