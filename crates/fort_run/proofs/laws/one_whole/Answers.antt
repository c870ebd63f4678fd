use Rattle.fort_run.proofs.OneWhole.{linked_or_broken, one_whole}
use Rattle.fort_run.proofs.laws.one_whole.Goals as goal

pub returns-clause-one : goal.returns-clause-one
returns-clause-one c = one_whole

pub returns-clause-apart : goal.returns-clause-apart
returns-clause-apart c = linked_or_broken c.never_both.ensures
