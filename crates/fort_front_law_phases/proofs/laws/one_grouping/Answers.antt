use Rattle.fort_front_law_phases.proofs.Groupings.{groupings_once}
use Rattle.fort_front_law_phases.proofs.laws.one_grouping.Goals as goal

pub returns : goal.returns
returns c = groupings_once
