use lib.Utf8
use Rattle.std.proofs.Common.{rules}
use Rattle.fort_lex_canonical.proofs.spelling.word_text.Goals as goal

pub returns-in-Sum : goal.returns-in-Sum
unfolding lib.Utf8.encode
returns-in-Sum c = let is = c.in-Sum.is in search rules

pub returns-in-Prod : goal.returns-in-Prod
unfolding lib.Utf8.encode
returns-in-Prod c = let is = c.in-Prod.is in search rules
