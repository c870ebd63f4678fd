use Rattle.std.proofs.Common.{◌≡◌, ◌++◌, List, length, map, take}
use Rattle.fort_hier.specs.Names.{Spelling}
use Rattle.fort_hier.specs.Numbers.{HoldsNumbers}
use Rattle.fort_member_fields.specs.Written.{written_next}
use Rattle.fort_member_fields.proofs.written.+written.Given as goal

abbrev pub invariant-add_next_types-loop-next : goal.invariant-add_next_types-loop-next
invariant-add_next_types-loop-next l = (list : List Spelling) → HoldsNumbers list l.numbers
    → length list ≡ l.size
    → l.types ≡ l.fn.types ++ map (written_next list l.names) (take l.next-index l.others)
