use Rattle.fort_audit.proofs.Said.{one_answer}
use Rattle.fort_audit.proofs.laws.one_answer.Goals as goal

pub returns : goal.returns
returns c = one_answer
