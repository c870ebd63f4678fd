use Rattle.fort_juxt.proofs.TightOnce.{one_rewriting}
use Rattle.fort_juxt.proofs.laws.one_rewriting.Goals as goal

pub returns : goal.returns
returns c = λ es r s h k. one_rewriting es r s h k
