use Rattle.std.proofs.Common.{sym, ap}
use Rattle.fort_prim.specs.Answers.{reply}
use Rattle.fort_prim.proofs.words.shown.Goals as goal

pub returns-in-None : goal.returns-in-None
returns-in-None c = sym (ap reply (c.in-None.ensures _))
