use Rattle.std.proofs.Common.{◌≡◌, ◌++◌, take}
use Rattle.std.specs.List.{flat_map}
use Rattle.fort_tree.specs.declared.declarations.ObjectEntry.{ObjectEntry}
use Rattle.fort_tree_type_names.specs.TypeNames.{mentioned_object_member}
use Rattle.fort_tree_type_names.proofs.declarations.add_object_members.Given as goal

abbrev pub invariant-loop-entry : goal.invariant-loop-entry
invariant-loop-entry l =
    l.names ≡ l.initial.names ++ flat_map (λ
    (x : ObjectEntry). mentioned_object_member x.member) (take l.entry-index l.members)
