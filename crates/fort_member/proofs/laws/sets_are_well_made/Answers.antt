use Rattle.fort_member.proofs.WellMadeLaws.{sets_well_made}
use Rattle.fort_member.proofs.laws.sets_are_well_made.Goals as goal

pub returns : goal.returns
returns c = sets_well_made
