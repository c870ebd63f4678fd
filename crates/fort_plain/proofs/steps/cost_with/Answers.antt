use Rattle.std.proofs.Common.{◌+◌}
use Rattle.fort_plain.proofs.Testing.{counted}
use Rattle.fort_plain.proofs.steps.cost_with.Goals as goal

pub returns : goal.returns
returns c =
    counted (c.args.course.now.spent + c.args.cost) c.checked_add.result
    (rw c.spent.ensures at c.checked_add.ensures)
