use Rattle.std.proofs.Common.{◌-◌}
use Rattle.fort_parse_types.specs.Longest.{NoLongerType}
use Rattle.fort_parse_types.proofs.longest.shorter_type.Given as goal

abbrev pub invariant-loop-turn : goal.invariant-loop-turn
invariant-loop-turn l = NoLongerType l.names l.tokens (l.most - l.turn)
