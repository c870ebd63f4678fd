use Rattle.std.proofs.Common.{take}
use Rattle.fort_link_table.specs.Numbers.{HoldsNumbers}
use Rattle.fort_link_table.proofs.numbers.Numbers.of.Given as goal

abbrev pub invariant-loop-i : goal.invariant-loop-i
invariant-loop-i l = HoldsNumbers (take l.i l.names) l.numbers
