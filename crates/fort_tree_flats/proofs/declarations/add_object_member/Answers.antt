use Rattle.std.proofs.Common.{ap}
use Rattle.fort_tree.specs.declared.declarations.ObjectMember.{ObjectMember}
use Rattle.fort_tree.specs.Limits.{measured_object_member}
use Rattle.fort_tree_flats.proofs.Steps.{one_added}
use Rattle.fort_tree_flats.proofs.declarations.add_object_member.Goals as goal

pub returns-in_ok-add_variable-in-Variable : goal.returns-in_ok-add_variable-in-Variable
returns-in_ok-add_variable-in-Variable c =
    one_added _ c.in_ok-add_variable-in-Variable.ensures (ap (λ
    (m : ObjectMember). (measured_object_member m).flats) c.in-Variable.is)

pub returns-in_ok-add_method-in-Method : goal.returns-in_ok-add_method-in-Method
returns-in_ok-add_method-in-Method c =
    one_added _ c.in_ok-add_method-in-Method.ensures (ap (λ
    (m : ObjectMember). (measured_object_member m).flats) c.in-Method.is)
