use Rattle.fort_group.proofs.Exists.{each_answered}
use Rattle.fort_group.proofs.OneBreak.{one_break}
use Rattle.fort_group.proofs.Rules.{breaks_none}
use Rattle.fort_group.proofs.answer.one_answer.Goals as goal

pub returns-clause-some : goal.returns-clause-some
returns-clause-some c = each_answered

pub returns-clause-apart : goal.returns-clause-apart
returns-clause-apart c row g rule place it breaks = breaks_none row g it rule place breaks

pub returns-clause-once : goal.returns-clause-once
returns-clause-once c = one_break
