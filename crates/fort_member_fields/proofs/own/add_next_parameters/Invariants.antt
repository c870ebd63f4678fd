use Rattle.std.proofs.Common.{◌≡◌, ◌++◌, List, length, map, take}
use Rattle.fort_hier.specs.Names.{Spelling}
use Rattle.fort_hier.specs.Numbers.{HoldsNumbers}
use Rattle.fort_member_fields.specs.Own.{next_field}
use Rattle.fort_member_fields.proofs.own.add_next_parameters.Given as goal

abbrev pub invariant-loop-next : goal.invariant-loop-next
invariant-loop-next l = (list : List Spelling) → HoldsNumbers list l.numbers → length list ≡ l.size
    → l.fields ≡ l.initial.fields ++ map (next_field list l.names) (take l.next-index l.others)
