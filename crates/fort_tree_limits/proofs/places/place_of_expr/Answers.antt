use Rattle.fort_tree.proofs.MeasuresFlats.{measures-Assign, measures-Flat, measures-Open, measures-OpenAssign}
use Rattle.fort_tree_limits.proofs.places.place_of_expr.Goals as goal

pub returns-in-Flat : goal.returns-in-Flat
returns-in-Flat c = rw (c.in-Flat.is, measures-Flat) (cc)

pub returns-in-Assign : goal.returns-in-Assign
returns-in-Assign c = rw (c.in-Assign.is, measures-Assign) (cc)

pub returns-in-Open : goal.returns-in-Open
returns-in-Open c = rw (c.in-Open.is, measures-Open) (cc)

pub returns-in-OpenAssign : goal.returns-in-OpenAssign
returns-in-OpenAssign c = rw (c.in-OpenAssign.is, measures-OpenAssign) (cc)
