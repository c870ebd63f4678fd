use Rattle.std.proofs.Common.{ap}
use Rattle.fort_tree.specs.declared.declarations.ObjectMember.{ObjectMember}
use Rattle.fort_tree_atoms.specs.AtomNames.{atoms_of_object_member}
use Rattle.fort_tree_atoms.proofs.Steps.{one_added}
use Rattle.fort_tree_atoms.proofs.declarations.add_object_member.Goals as goal

pub returns-in_ok-add_expr-in-Variable : goal.returns-in_ok-add_expr-in-Variable
returns-in_ok-add_expr-in-Variable c =
    one_added _ c.in_ok-add_expr-in-Variable.ensures (ap (λ
    (x : ObjectMember). atoms_of_object_member x) c.in-Variable.is)

pub returns-in_ok-add_method_body-in-Method : goal.returns-in_ok-add_method_body-in-Method
returns-in_ok-add_method_body-in-Method c =
    one_added _ c.in_ok-add_method_body-in-Method.ensures (ap (λ
    (x : ObjectMember). atoms_of_object_member x) c.in-Method.is)
