use Rattle.std.proofs.Common.{◌≡◌, ◌++◌, take}
use Rattle.std.specs.List.{flat_map}
use Rattle.fort_tree.specs.declared.declarations.ObjectEntry.{ObjectEntry}
use Rattle.fort_tree_atoms.specs.AtomNames.{atoms_of_object_member}
use Rattle.fort_tree_atoms.proofs.declarations.add_object_members.Given as goal

abbrev pub invariant-loop-entry : goal.invariant-loop-entry
invariant-loop-entry l =
    l.names ≡ l.initial.names ++ flat_map (λ
    (x : ObjectEntry). atoms_of_object_member x.member) (take l.entry-index l.members)
