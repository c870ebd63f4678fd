use Rattle.std.proofs.Common.{List, ap, ◌∙◌}
use Rattle.std.specs.Prelude.{map}
use Rattle.fort_tree.specs.declared.declarations.Declaration.{Declaration}
use Rattle.fort_tree.specs.declared.declarations.ObjectEntry.{ObjectEntry}
use Rattle.fort_tree.specs.declared.declarations.TraitEntry.{TraitEntry}
use Rattle.fort_tree.specs.Limits.{measured_declaration, measured_object_member, measured_trait_member}
use Rattle.fort_tree.specs.Measured.{all_flats}
use Rattle.fort_tree_flats.proofs.Bodies.{function_flats, object_flats}
use Rattle.fort_tree_flats.proofs.Steps.{by, one_added}
use Rattle.fort_tree_flats.proofs.declarations.add_declaration.Goals as goal

pub returns-in_ok-add_variable-in-Variable : goal.returns-in_ok-add_variable-in-Variable
returns-in_ok-add_variable-in-Variable c =
    one_added _ c.in_ok-add_variable-in-Variable.ensures (ap (λ
    (d : Declaration). (measured_declaration d).flats) c.in-Variable.is)

pub returns-in_ok-add_expr-in-Function : goal.returns-in_ok-add_expr-in-Function
returns-in_ok-add_expr-in-Function c =
    one_added _ c.in_ok-add_expr-in-Function.ensures (ap (λ
    (d : Declaration). (measured_declaration d).flats) c.in-Function.is
    ∙ function_flats c.in-Function.function)

pub returns-in_ok-add_trait_members-in-Trait : goal.returns-in_ok-add_trait_members-in-Trait
returns-in_ok-add_trait_members-in-Trait c =
    one_added _ (by (λ
    (l : List TraitEntry). all_flats (map (λ
    (e : TraitEntry). measured_trait_member e.member) l)) _ c.as_slice.ensures
    c.in_ok-add_trait_members-in-Trait.ensures)
    (ap (λ (d : Declaration). (measured_declaration d).flats) c.in-Trait.is)

pub returns-in_ok-add_object_members-in-Object : goal.returns-in_ok-add_object_members-in-Object
returns-in_ok-add_object_members-in-Object c =
    one_added _ (by (λ
    (l : List ObjectEntry). all_flats (map (λ
    (e : ObjectEntry). measured_object_member e.member) l)) _ c.as_slice-in-Object.ensures
    c.in_ok-add_object_members-in-Object.ensures)
    (ap (λ (d : Declaration). (measured_declaration d).flats) c.in-Object.is
    ∙ object_flats c.in-Object.object)
