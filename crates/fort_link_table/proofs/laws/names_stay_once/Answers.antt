use Rattle.fort_link_table.proofs.Once.{stay_once}
use Rattle.fort_link_table.proofs.laws.names_stay_once.Goals as goal

pub returns : goal.returns
returns c = stay_once
