use Rattle.std.proofs.Common.{◌≡◌, ◌++◌, drop}
use Rattle.std.specs.List.{flat_map}
use Rattle.fort_hier.specs.Tops.{trait_top}
use Rattle.fort_hier.proofs.tops.add_trait_members.Given as goal

abbrev pub invariant-loop-entry : goal.invariant-loop-entry
invariant-loop-entry l =
    l.list ++ flat_map trait_top (drop l.entry-index l.members)
    ≡ l.initial.list ++ flat_map trait_top l.members
