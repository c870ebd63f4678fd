use Rattle.fort_link_table.proofs.Tokens.{numbers_fit}
use Rattle.fort_link_table.proofs.laws.joined_numbers_fit.Goals as goal

pub returns : goal.returns
returns c = numbers_fit
