use Rattle.fort_machine.proofs.Written.{written_is_bare}
use Rattle.fort_machine.proofs.written_is_bare.Goals as goal

pub returns : goal.returns
returns c = written_is_bare
