use lib.Utf8
use Rattle.std.proofs.Common.{rules}
use Rattle.fort_lex_canonical.proofs.spelling.mark_text.Goals as goal

pub returns-in-OpenStatic : goal.returns-in-OpenStatic
unfolding lib.Utf8.encode
returns-in-OpenStatic c = let is = c.in-OpenStatic.is in search rules

pub returns-in-CloseStatic : goal.returns-in-CloseStatic
unfolding lib.Utf8.encode
returns-in-CloseStatic c = let is = c.in-CloseStatic.is in search rules

pub returns-in-LeftArrow : goal.returns-in-LeftArrow
unfolding lib.Utf8.encode
returns-in-LeftArrow c = let is = c.in-LeftArrow.is in search rules

pub returns-in-RightArrow : goal.returns-in-RightArrow
unfolding lib.Utf8.encode
returns-in-RightArrow c = let is = c.in-RightArrow.is in search rules

pub returns-in-DoubleArrow : goal.returns-in-DoubleArrow
unfolding lib.Utf8.encode
returns-in-DoubleArrow c = let is = c.in-DoubleArrow.is in search rules
