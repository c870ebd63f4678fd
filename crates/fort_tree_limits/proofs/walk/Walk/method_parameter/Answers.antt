use Rattle.std.proofs.lemmas.List.{append-nil}
use Rattle.fort_tree_limits.proofs.EarliestLaws.{earliest_none}
use Rattle.fort_tree_limits.proofs.walk.Walk.method_parameter.Goals as goal

pub returns-in-Parameter : goal.returns-in-Parameter
returns-in-Parameter c = rw (c.in-Parameter.is, append-nil) (cc)

pub returns-in-Self_ : goal.returns-in-Self_
returns-in-Self_ c = rw (c.in-Self_.is, earliest_none)
