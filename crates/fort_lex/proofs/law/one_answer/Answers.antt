use Rattle.fort_lex.proofs.Exists.{list_or_rule}
use Rattle.fort_lex.proofs.Uniqueness.{one_list_of_tokens, list_or_fault}
use Rattle.fort_lex.proofs.law.one_answer.Goals as goal

pub returns-clause-some : goal.returns-clause-some
returns-clause-some c = list_or_rule c.args._source.now

pub returns-clause-once : goal.returns-clause-once
returns-clause-once c = one_list_of_tokens c.args._source.now

pub returns-clause-apart : goal.returns-clause-apart
returns-clause-apart c = list_or_fault c.args._source.now
