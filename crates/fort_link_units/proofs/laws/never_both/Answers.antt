use Rattle.fort_link_units.proofs.UnitLaws.{never}
use Rattle.fort_link_units.proofs.laws.never_both.Goals as goal

pub returns : goal.returns
returns c = never
