use Rattle.fort_lex_law_tokens.proofs.Numerals.{file_numbers_fit}
use Rattle.fort_lex_law_tokens.proofs.laws.file_numbers_fit.Goals as goal

pub returns : goal.returns
returns c = file_numbers_fit
