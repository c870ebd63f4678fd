use Rattle.fort_plain.proofs.Breaks.{broken_is_none}
use Rattle.fort_plain.proofs.laws.broken_is_none.Goals as goal

pub returns : goal.returns
returns c = broken_is_none
