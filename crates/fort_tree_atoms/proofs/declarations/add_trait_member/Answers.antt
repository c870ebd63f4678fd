use Rattle.std.proofs.Common.{ap}
use Rattle.fort_tree.specs.declared.declarations.TraitMember.{TraitMember}
use Rattle.fort_tree_atoms.specs.AtomNames.{atoms_of_trait_member}
use Rattle.fort_tree_atoms.proofs.Steps.{nothing_added, one_added}
use Rattle.fort_tree_atoms.proofs.declarations.add_trait_member.Goals as goal

pub returns-in-Field : goal.returns-in-Field
returns-in-Field c =
    nothing_added _ (ap (λ (x : TraitMember). atoms_of_trait_member x) c.in-Field.is)

pub returns-in_ok-add_method_body-in-Method : goal.returns-in_ok-add_method_body-in-Method
returns-in_ok-add_method_body-in-Method c =
    one_added _ c.in_ok-add_method_body-in-Method.ensures (ap (λ
    (x : TraitMember). atoms_of_trait_member x) c.in-Method.is)
