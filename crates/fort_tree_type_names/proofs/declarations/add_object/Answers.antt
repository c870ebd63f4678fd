use Rattle.std.proofs.Common.{List, refl}
use Rattle.std.specs.List.{flat_map}
use Rattle.fort_tree.specs.declared.declarations.ObjectEntry.{ObjectEntry}
use Rattle.fort_tree_type_names.specs.TypeNames.{mentioned_object_member}
use Rattle.fort_tree_type_names.proofs.Steps.{by, three_added}
use Rattle.fort_tree_type_names.proofs.declarations.add_object.Goals as goal

pub returns : goal.returns
returns c =
    three_added _ _ _ _ c.in_ok-add_object_parameters.ensures c.in_ok-add_extends.ensures (by (λ
    (l : List ObjectEntry). flat_map (λ
    (x : ObjectEntry). mentioned_object_member x.member) l) _ c.as_slice.ensures
    c.in_ok-add_object_members.ensures) refl
