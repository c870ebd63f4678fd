use Rattle.std.proofs.Common.{List, ap}
use Rattle.std.specs.List.{flat_map}
use Rattle.fort_tree.specs.declared.declarations.Declaration.{Declaration}
use Rattle.fort_tree.specs.declared.declarations.ObjectEntry.{ObjectEntry}
use Rattle.fort_tree.specs.declared.declarations.TraitEntry.{TraitEntry}
use Rattle.fort_tree_atoms.specs.AtomNames.{atoms_of_declaration, atoms_of_object_member, atoms_of_trait_member}
use Rattle.fort_tree_atoms.proofs.Steps.{by, one_added}
use Rattle.fort_tree_atoms.proofs.declarations.add_declaration.Goals as goal

pub returns-in_ok-add_expr-in-Variable : goal.returns-in_ok-add_expr-in-Variable
returns-in_ok-add_expr-in-Variable c =
    one_added _ c.in_ok-add_expr-in-Variable.ensures (ap (λ
    (x : Declaration). atoms_of_declaration x) c.in-Variable.is)

pub returns-in_ok-add_expr-in-Function : goal.returns-in_ok-add_expr-in-Function
returns-in_ok-add_expr-in-Function c =
    one_added _ c.in_ok-add_expr-in-Function.ensures (ap (λ
    (x : Declaration). atoms_of_declaration x) c.in-Function.is)

pub returns-in_ok-add_trait_members-in-Trait : goal.returns-in_ok-add_trait_members-in-Trait
returns-in_ok-add_trait_members-in-Trait c =
    one_added _ (by (λ
    (l : List TraitEntry). flat_map (λ
    (x : TraitEntry). atoms_of_trait_member x.member) l) _ c.as_slice.ensures
    c.in_ok-add_trait_members-in-Trait.ensures) (ap (λ
    (x : Declaration). atoms_of_declaration x) c.in-Trait.is)

pub returns-in_ok-add_object_members-in-Object : goal.returns-in_ok-add_object_members-in-Object
returns-in_ok-add_object_members-in-Object c =
    one_added _ (by (λ
    (l : List ObjectEntry). flat_map (λ
    (x : ObjectEntry). atoms_of_object_member x.member) l) _ c.as_slice-in-Object.ensures
    c.in_ok-add_object_members-in-Object.ensures) (ap (λ
    (x : Declaration). atoms_of_declaration x) c.in-Object.is)
