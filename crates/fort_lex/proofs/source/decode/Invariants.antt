use Rattle.std.proofs.Common.{◌≡◌}
use Rattle.fort_lex.proofs.source.decode.Given as goal

abbrev pub invariant-loop-c : goal.invariant-loop-c
invariant-loop-c l = l.out.items ≡ l.yielded
