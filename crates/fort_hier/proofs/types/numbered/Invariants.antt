use Rattle.std.proofs.Common.{◌≡◌, List, length, map, take}
use Rattle.fort_hier.specs.Names.{Spelling}
use Rattle.fort_hier.specs.Numbers.{HoldsNumbers, number}
use Rattle.fort_hier.proofs.types.numbered.Given as goal

abbrev pub invariant-loop-name : goal.invariant-loop-name
invariant-loop-name l = (list : List Spelling) → HoldsNumbers list l.numbers → length list ≡ l.size
    → l.found ≡ map (number list l.names) (take l.name-index l.written)
