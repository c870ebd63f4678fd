use Rattle.std.proofs.Common.{Option, ap}
use Rattle.fort_tree.specs.declared.declarations.MethodBody.{MethodBody}
use Rattle.fort_tree_atoms.specs.AtomNames.{atoms_of_method_body}
use Rattle.fort_tree_atoms.proofs.Steps.{one_added}
use Rattle.fort_tree_atoms.proofs.declarations.add_method_body.Goals as goal

pub returns-in_ok-add_expr : goal.returns-in_ok-add_expr
returns-in_ok-add_expr c =
    one_added _ c.in_ok-add_expr.ensures (ap (λ
    (o : Option MethodBody). atoms_of_method_body o) c.in-Some.is)
