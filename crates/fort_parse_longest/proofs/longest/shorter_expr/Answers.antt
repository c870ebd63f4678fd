use Rattle.std.proofs.Common.{◌-◌, ◌≤◌, length, arith}
use Rattle.fort_tree.specs.Said.{elsewhere}
use Rattle.fort_tree.specs.Yield.{said_expr}
use Rattle.fort_parse_longest.proofs.Rows.{longest_within}
use Rattle.fort_parse_longest.proofs.longest.shorter_expr.Goals as goal

pub returns-in-Expr : goal.returns-in-Expr
returns-in-Expr c =
    let le : c.args.most - c.loop-turn.turn ≤ length c.args.tokens.now =
    omega (arith, c.requires.within) in
    longest_within c.args.names.now elsewhere said_expr c.args.tokens.now
    (c.args.most - c.loop-turn.turn) c.in-Expr.expr c.in-Expr.count le c.loop-turn.invariant
    (rw c.in-Expr.is at c.in_ok-expr.ensures)
