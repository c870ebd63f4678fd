use Rattle.std.proofs.Common.{◌-◌}
use Rattle.fort_group.proofs.part.+part.Given as goal

abbrev pub decreases-part : goal.decreases-part
decreases-part l = l.to - l.from
