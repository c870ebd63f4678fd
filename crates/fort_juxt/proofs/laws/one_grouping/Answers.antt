use Rattle.fort_juxt.proofs.LooseLaws.{one_grouping}
use Rattle.fort_juxt.proofs.laws.one_grouping.Goals as goal

pub returns : goal.returns
returns c = λ es r s h k. one_grouping es r s h k
