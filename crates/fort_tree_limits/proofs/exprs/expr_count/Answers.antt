use Rattle.fort_tree_limits.proofs.ExprWalks.{expr_list_count}
use Rattle.fort_tree_limits.proofs.exprs.expr_count.Goals as goal

pub returns-in-Some : goal.returns-in-Some
returns-in-Some c = rw (c.as_slice.ensures, c.in-Some.is, expr_list_count)
