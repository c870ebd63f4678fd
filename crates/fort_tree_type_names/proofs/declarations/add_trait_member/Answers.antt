use Rattle.std.proofs.Common.{ap}
use Rattle.fort_tree.specs.declared.declarations.TraitMember.{TraitMember}
use Rattle.fort_tree_type_names.specs.TypeNames.{mentioned_trait_member}
use Rattle.fort_tree_type_names.proofs.Steps.{one_added}
use Rattle.fort_tree_type_names.proofs.declarations.add_trait_member.Goals as goal

pub returns-in_ok-add_type-in-Field : goal.returns-in_ok-add_type-in-Field
returns-in_ok-add_type-in-Field c =
    one_added _ c.in_ok-add_type-in-Field.ensures (ap (λ
    (x : TraitMember). mentioned_trait_member x) c.in-Field.is)

pub returns-in_ok-add_method-in-Method : goal.returns-in_ok-add_method-in-Method
returns-in_ok-add_method-in-Method c =
    one_added _ c.in_ok-add_method-in-Method.ensures (ap (λ
    (x : TraitMember). mentioned_trait_member x) c.in-Method.is)
