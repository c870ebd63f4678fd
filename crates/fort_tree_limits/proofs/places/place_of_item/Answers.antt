use Rattle.fort_tree.proofs.MeasuresBlocks.{measures-Expr, measures-Names, measures-Variable}
use Rattle.fort_tree_limits.proofs.places.place_of_item.Goals as goal

pub returns-in-Variable : goal.returns-in-Variable
returns-in-Variable c = rw (c.in-Variable.is, measures-Variable) (cc)

pub returns-in-Names : goal.returns-in-Names
returns-in-Names c = rw (c.in-Names.is, measures-Names)

pub returns-in-Expr : goal.returns-in-Expr
returns-in-Expr c = rw (c.in-Expr.is, measures-Expr) (cc)
