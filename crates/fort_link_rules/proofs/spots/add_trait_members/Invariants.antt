use Rattle.std.proofs.Common.{◌≡◌, ◌++◌, map, take}
use Rattle.fort_tree.specs.declared.declarations.TraitEntry.{TraitEntry}
use Rattle.fort_tree.specs.Limits.{measured_trait_member}
use Rattle.fort_link_rules.proofs.spots.add_trait_members.Given as goal

abbrev pub invariant-loop-entry : goal.invariant-loop-entry
invariant-loop-entry l =
    l.places ≡ l.initial.places ++ map (λ
    (e : TraitEntry). (measured_trait_member e.member).spot.place) (take l.entry-index l.members)
