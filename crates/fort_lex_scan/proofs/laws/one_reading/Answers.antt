use Rattle.fort_lex_scan.proofs.Exists.{one_exists}
use Rattle.fort_lex_scan.proofs.Theorem.{one_list, tokens_sound}
use Rattle.fort_lex_scan.proofs.laws.one_reading.Goals as goal

pub returns-clause-some : goal.returns-clause-some
returns-clause-some c = one_exists c.args._text.now

pub returns-clause-once : goal.returns-clause-once
returns-clause-once c = one_list c.args._text.now

pub returns-clause-apart : goal.returns-clause-apart
returns-clause-apart c = tokens_sound c.args._text.now
