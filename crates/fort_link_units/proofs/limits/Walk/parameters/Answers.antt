use Rattle.fort_tree_limits.proofs.EarliestLaws.{earliest_append, earliest_none}
use Rattle.fort_link_units.proofs.limits.Walk.parameters.Goals as goal

pub returns-in-Some : goal.returns-in-Some
returns-in-Some c = rw (c.in-Some.is, earliest_append) (cc)

pub returns-in-None : goal.returns-in-None
returns-in-None c = rw (c.in-None.is, earliest_none)
