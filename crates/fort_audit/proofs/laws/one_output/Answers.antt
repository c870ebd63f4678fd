use Rattle.fort_audit.proofs.Said.{one_output}
use Rattle.fort_audit.proofs.laws.one_output.Goals as goal

pub returns : goal.returns
returns c = one_output
