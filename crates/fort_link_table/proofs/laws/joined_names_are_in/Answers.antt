use Rattle.fort_link_table.proofs.Tokens.{names_are_in}
use Rattle.fort_link_table.proofs.laws.joined_names_are_in.Goals as goal

pub returns : goal.returns
returns c = names_are_in
