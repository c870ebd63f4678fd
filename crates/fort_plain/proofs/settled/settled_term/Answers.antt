use Rattle.fort_plain.proofs.Settling.{neither}
use Rattle.fort_plain.proofs.settled.settled_term.Goals as goal

pub returns-in_default : goal.returns-in_default
returns-in_default c = neither c.args.term.now c.in_default.not-Value c.in_default.not-Throw
