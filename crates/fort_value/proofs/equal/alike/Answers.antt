use Rattle.fort_value.proofs.SameType.{told}
use Rattle.fort_value.proofs.equal.alike.Goals as goal

pub returns : goal.returns
returns c = told _ _ _ c.same.ensures
