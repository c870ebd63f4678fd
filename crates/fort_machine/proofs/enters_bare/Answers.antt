use Rattle.fort_machine.proofs.ProperRuns.{enters_bare}
use Rattle.fort_machine.proofs.enters_bare.Goals as goal

pub returns : goal.returns
returns c = enters_bare
