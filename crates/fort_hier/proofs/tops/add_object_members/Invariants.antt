use Rattle.std.proofs.Common.{◌≡◌, ◌++◌, drop}
use Rattle.std.specs.List.{flat_map}
use Rattle.fort_hier.specs.Tops.{object_top}
use Rattle.fort_hier.proofs.tops.add_object_members.Given as goal

abbrev pub invariant-loop-entry : goal.invariant-loop-entry
invariant-loop-entry l =
    l.list ++ flat_map object_top (drop l.entry-index l.members)
    ≡ l.initial.list ++ flat_map object_top l.members
