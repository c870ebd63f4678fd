use Rattle.fort_lex_law_reread.proofs.Reading.{told_apart}
use Rattle.fort_lex_law_reread.proofs.laws.canonical_text_tells_tokens_apart.Goals as goal

pub returns : goal.returns
returns c = told_apart
