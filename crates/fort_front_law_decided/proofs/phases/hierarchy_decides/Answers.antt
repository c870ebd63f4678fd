use Rattle.fort_front_law_decided.proofs.Hierarchies.{hierarchy_or_report}
use Rattle.fort_front_law_decided.proofs.phases.hierarchy_decides.Goals as goal

pub returns : goal.returns
returns c = hierarchy_or_report
