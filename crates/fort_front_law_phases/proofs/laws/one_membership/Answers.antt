use Rattle.fort_front_law_phases.proofs.Memberships.{members_once}
use Rattle.fort_front_law_phases.proofs.laws.one_membership.Goals as goal

pub returns : goal.returns
returns c = members_once
