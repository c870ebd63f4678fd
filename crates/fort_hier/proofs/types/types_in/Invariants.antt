use Rattle.std.proofs.Common.{◌≡◌, ◌++◌, List, length, map, take}
use Rattle.fort_hier.specs.Names.{Spelling}
use Rattle.fort_types_builtin.specs.Types.{built_in_declared}
use Rattle.fort_hier.specs.Numbers.{HoldsNumbers, declared_by}
use Rattle.fort_hier.proofs.types.types_in.Given as goal

abbrev pub invariant-loop-i : goal.invariant-loop-i
invariant-loop-i l = (list : List Spelling) → HoldsNumbers list l.numbers → length list ≡ l.size
    → l.types ≡ built_in_declared ++ map (declared_by list l.names) (take l.i l.heads)
