use Rattle.std.proofs.Common.{Option, ap}
use Rattle.fort_tree.specs.declared.declarations.MethodBody.{MethodBody}
use Rattle.fort_tree_type_names.specs.TypeNames.{mentioned_body}
use Rattle.fort_tree_type_names.proofs.Steps.{one_added}
use Rattle.fort_tree_type_names.proofs.declarations.add_method_body.Goals as goal

pub returns-in_ok-add_expr : goal.returns-in_ok-add_expr
returns-in_ok-add_expr c =
    one_added _ c.in_ok-add_expr.ensures (ap (λ
    (o : Option MethodBody). mentioned_body o) c.in-Some.is)
