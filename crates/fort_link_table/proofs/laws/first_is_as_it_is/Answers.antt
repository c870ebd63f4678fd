use Rattle.fort_link_table.proofs.Tokens.{as_it_is}
use Rattle.fort_link_table.proofs.laws.first_is_as_it_is.Goals as goal

pub returns : goal.returns
returns c = as_it_is
