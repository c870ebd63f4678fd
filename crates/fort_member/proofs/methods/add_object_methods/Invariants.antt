use Rattle.std.proofs.Common.{◌≡◌, ◌++◌, List, length, take}
use Rattle.std.specs.List.{flat_map}
use Rattle.fort_hier.specs.Names.{Spelling}
use Rattle.fort_hier.specs.Numbers.{HoldsNumbers}
use Rattle.fort_member.specs.Declarations.{object_entry}
use Rattle.fort_member.proofs.methods.add_object_methods.Given as goal

abbrev pub invariant-loop-entry : goal.invariant-loop-entry
invariant-loop-entry l = (list : List Spelling) → HoldsNumbers list l.numbers → length list ≡ l.size
    → l.entries
    ≡ l.initial.entries
    ++ flat_map (object_entry list l.names l.id.0) (take l.entry-index l.members)
