use Rattle.fort_front_law_phases.proofs.Hierarchies.{hierarchy_once}
use Rattle.fort_front_law_phases.proofs.laws.one_hierarchy.Goals as goal

pub returns : goal.returns
returns c = hierarchy_once
