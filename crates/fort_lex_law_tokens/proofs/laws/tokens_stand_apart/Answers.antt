use Rattle.fort_lex_law_tokens.proofs.Apart.{tokens_apart}
use Rattle.fort_lex_law_tokens.proofs.laws.tokens_stand_apart.Goals as goal

pub returns : goal.returns
returns c = tokens_apart
