use Rattle.fort_over_pair.proofs.Counted.{stands_times}
use Rattle.fort_over_pair.proofs.counting.times.Goals as goal

pub returns-clause-ok : goal.returns-clause-ok
returns-clause-ok c = stands_times _ _ _ c.capped.ensures.few c.capped.ensures.ok
