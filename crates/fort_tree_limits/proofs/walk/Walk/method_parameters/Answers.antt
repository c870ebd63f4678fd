use Rattle.fort_tree_limits.proofs.EarliestLaws.{all_crowded-append, earliest_append, earliest_none}
use Rattle.fort_tree_limits.proofs.walk.Walk.method_parameters.Goals as goal

pub returns-in-Some : goal.returns-in-Some
returns-in-Some c = rw (c.in-Some.is, all_crowded-append, earliest_append) (cc)

pub returns-in-None : goal.returns-in-None
returns-in-None c = rw (c.in-None.is, earliest_none)
