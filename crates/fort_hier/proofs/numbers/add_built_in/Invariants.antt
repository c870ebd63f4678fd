use Rattle.std.proofs.Common.{take}
use Rattle.fort_types_builtin.specs.Types.{declared_spellings}
use Rattle.fort_hier.specs.Numbers.{HoldsNumbers}
use Rattle.fort_hier.proofs.numbers.add_built_in.Given as goal

abbrev pub invariant-loop-number : goal.invariant-loop-number
invariant-loop-number l = HoldsNumbers (take l.number declared_spellings) l.numbers
