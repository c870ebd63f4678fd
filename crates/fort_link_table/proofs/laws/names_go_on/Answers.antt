use Rattle.fort_link_table.proofs.Growing.{go_on}
use Rattle.fort_link_table.proofs.laws.names_go_on.Goals as goal

pub returns : goal.returns
returns c = go_on
