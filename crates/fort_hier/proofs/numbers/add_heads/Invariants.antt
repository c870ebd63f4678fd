use Rattle.std.proofs.Common.{◌++◌, map, take}
use Rattle.fort_types_builtin.specs.Types.{declared_spellings}
use Rattle.fort_hier.specs.Numbers.{HoldsNumbers, head_spelling}
use Rattle.fort_hier.proofs.numbers.add_heads.Given as goal

abbrev pub invariant-loop-i : goal.invariant-loop-i
invariant-loop-i l =
    HoldsNumbers (declared_spellings ++ map (head_spelling l.names) (take l.i l.heads)) l.numbers
