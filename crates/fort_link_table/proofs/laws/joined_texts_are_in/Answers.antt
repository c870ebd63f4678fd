use Rattle.fort_link_table.proofs.Tokens.{texts_are_in}
use Rattle.fort_link_table.proofs.laws.joined_texts_are_in.Goals as goal

pub returns : goal.returns
returns c = texts_are_in
