use Rattle.std.proofs.Common.{◌≡◌, ◌++◌, List, length, take}
use Rattle.std.specs.List.{flat_map}
use Rattle.fort_hier.specs.Names.{Spelling}
use Rattle.fort_hier.specs.Numbers.{HoldsNumbers}
use Rattle.fort_member_fields.specs.Own.{object_field}
use Rattle.fort_member_fields.proofs.own.add_object_fields.Given as goal

abbrev pub invariant-loop-entry : goal.invariant-loop-entry
invariant-loop-entry l = (list : List Spelling) → HoldsNumbers list l.numbers → length list ≡ l.size
    → l.fields
    ≡ l.initial.fields ++ flat_map (object_field list l.names) (take l.entry-index l.members)
