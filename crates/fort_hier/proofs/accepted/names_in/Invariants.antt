use Rattle.std.proofs.Common.{◌≡◌, ◌++◌, map, take}
use Rattle.fort_types_builtin.specs.Types.{declared_spellings}
use Rattle.fort_hier.specs.Numbers.{head_spelling}
use Rattle.fort_hier.proofs.accepted.names_in.Given as goal

abbrev pub invariant-loop-i : goal.invariant-loop-i
invariant-loop-i l = l.list ≡ declared_spellings ++ map (head_spelling l.names) (take l.i l.heads)
