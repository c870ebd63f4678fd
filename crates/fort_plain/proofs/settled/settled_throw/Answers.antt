use Rattle.fort_plain.proofs.Settling.{no_throw_yet}
use Rattle.fort_plain.proofs.settled.settled_throw.Goals as goal

pub returns-in_default : goal.returns-in_default
returns-in_default c = no_throw_yet c.args.thrown.now c.in_default.not-Value
