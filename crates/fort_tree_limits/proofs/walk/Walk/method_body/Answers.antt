use Rattle.std.proofs.lemmas.List.{append-nil}
use Rattle.fort_tree_limits.proofs.EarliestLaws.{earliest_none}
use Rattle.fort_tree_limits.proofs.walk.Walk.method_body.Goals as goal

pub returns-in-Some : goal.returns-in-Some
returns-in-Some c = rw (c.in-Some.is, append-nil) (cc)

pub returns-in-None : goal.returns-in-None
returns-in-None c = rw (c.in-None.is, earliest_none)
