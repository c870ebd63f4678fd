use Rattle.fort_link_table.proofs.Tokens.{stands_apart}
use Rattle.fort_link_table.proofs.laws.joined_stands_apart.Goals as goal

pub returns : goal.returns
returns c = stands_apart
