use Rattle.std.proofs.Common.{List, refl}
use Rattle.std.specs.List.{flat_map}
use Rattle.fort_tree.specs.declared.declarations.TraitEntry.{TraitEntry}
use Rattle.fort_tree_type_names.specs.TypeNames.{mentioned_trait_member}
use Rattle.fort_tree_type_names.proofs.Steps.{by, four_added}
use Rattle.fort_tree_type_names.proofs.declarations.add_trait.Goals as goal

pub returns : goal.returns
returns c =
    four_added _ _ _ _ _ c.in_ok-add_extends.ensures c.in_ok-add_excludes.ensures
    c.in_ok-add_comprises.ensures (by (λ
    (l : List TraitEntry). flat_map (λ
    (x : TraitEntry). mentioned_trait_member x.member) l) _ c.as_slice.ensures
    c.in_ok-add_trait_members.ensures) refl
