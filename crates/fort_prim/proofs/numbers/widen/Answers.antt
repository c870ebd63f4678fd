use Rattle.std.proofs.Common.{sym, ap}
use Rattle.fort_prim.specs.Answers.{reply}
use Rattle.fort_prim.proofs.numbers.widen.Goals as goal

pub returns-in-None : goal.returns-in-None
returns-in-None c p = sym (ap reply (c.in-None.ensures _))
