use Rattle.std.proofs.Common.{subst}
use Rattle.fort_plain.specs.Paths.{IsSettled, whole}
use Rattle.fort_plain.proofs.attempts.close.Goals as goal

pub returns-in-Open : goal.returns-in-Open
returns-in-Open c =
    subst (IsSettled (whole c.args.going.course.clock c.args.going.state)) c.in-Open.is
    (rw c.clock.ensures at c.in_ok-value.ensures)
