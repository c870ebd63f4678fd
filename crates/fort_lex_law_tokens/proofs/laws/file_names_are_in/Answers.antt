use Rattle.fort_lex_law_tokens.proofs.Named.{file_names_are_in}
use Rattle.fort_lex_law_tokens.proofs.laws.file_names_are_in.Goals as goal

pub returns : goal.returns
returns c = file_names_are_in
