use Rattle.std.proofs.Common.{◌-◌}
use Rattle.fort_parse_longest.specs.Longest.{NoLongerExpr}
use Rattle.fort_parse_longest.proofs.longest.shorter_expr.Given as goal

abbrev pub invariant-loop-turn : goal.invariant-loop-turn
invariant-loop-turn l = NoLongerExpr l.names l.tokens (l.most - l.turn)
