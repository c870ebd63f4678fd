use Rattle.fort_link_table.proofs.Tokens.{stands_behind}
use Rattle.fort_link_table.proofs.laws.joined_stands_behind.Goals as goal

pub returns : goal.returns
returns c = stands_behind
