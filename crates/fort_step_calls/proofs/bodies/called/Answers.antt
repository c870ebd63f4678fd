use Rattle.std.proofs.Common.{sym}
use Rattle.fort_step_calls.proofs.bodies.called.Goals as goal

pub returns : goal.returns
returns c = (c.in-Some.ensures.0, c.in-Some.decl.now, c.in-Some.ensures.1, sym c.in_ok-deal.ensures)
