use lib.Utf8
use Rattle.std.proofs.Common.{rules}
use Rattle.fort_lex_canonical.proofs.spelling.operator_text.Goals as goal

pub returns-in-Times : goal.returns-in-Times
unfolding lib.Utf8.encode
returns-in-Times c = let is = c.in-Times.is in search rules

pub returns-in-Dot : goal.returns-in-Dot
unfolding lib.Utf8.encode
returns-in-Dot c = let is = c.in-Dot.is in search rules

pub returns-in-Ne : goal.returns-in-Ne
unfolding lib.Utf8.encode
returns-in-Ne c = let is = c.in-Ne.is in search rules

pub returns-in-Le : goal.returns-in-Le
unfolding lib.Utf8.encode
returns-in-Le c = let is = c.in-Le.is in search rules

pub returns-in-Ge : goal.returns-in-Ge
unfolding lib.Utf8.encode
returns-in-Ge c = let is = c.in-Ge.is in search rules

pub returns-in-Same : goal.returns-in-Same
unfolding lib.Utf8.encode
returns-in-Same c = let is = c.in-Same.is in search rules

pub returns-in-And : goal.returns-in-And
unfolding lib.Utf8.encode
returns-in-And c = let is = c.in-And.is in search rules

pub returns-in-Or : goal.returns-in-Or
unfolding lib.Utf8.encode
returns-in-Or c = let is = c.in-Or.is in search rules

pub returns-in-Not : goal.returns-in-Not
unfolding lib.Utf8.encode
returns-in-Not c = let is = c.in-Not.is in search rules
