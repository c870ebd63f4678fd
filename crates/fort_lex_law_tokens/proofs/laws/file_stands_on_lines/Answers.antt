use Rattle.fort_lex_law_tokens.proofs.Lines.{stands_on_lines}
use Rattle.fort_lex_law_tokens.proofs.laws.file_stands_on_lines.Goals as goal

pub returns : goal.returns
returns c = stands_on_lines
