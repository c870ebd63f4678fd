use Rattle.std.proofs.Common.{ap, ◌∙◌}
use Rattle.fort_tree.specs.declared.declarations.TraitMember.{TraitMember}
use Rattle.fort_tree.specs.Limits.{measured_trait_member}
use Rattle.fort_tree_flats.proofs.Bodies.{field_flats}
use Rattle.fort_tree_flats.proofs.Steps.{nothing_added, one_added}
use Rattle.fort_tree_flats.proofs.declarations.add_trait_member.Goals as goal

pub returns-in-Field : goal.returns-in-Field
returns-in-Field c =
    nothing_added _ (ap (λ
    (m : TraitMember). (measured_trait_member m).flats) c.in-Field.is
    ∙ field_flats c.in-Field.ty)

pub returns-in_ok-add_method-in-Method : goal.returns-in_ok-add_method-in-Method
returns-in_ok-add_method-in-Method c =
    one_added _ c.in_ok-add_method-in-Method.ensures (ap (λ
    (m : TraitMember). (measured_trait_member m).flats) c.in-Method.is)
