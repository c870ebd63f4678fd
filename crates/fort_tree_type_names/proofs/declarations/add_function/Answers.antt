use Rattle.std.proofs.Common.{refl}
use Rattle.fort_tree_type_names.proofs.Steps.{three_added}
use Rattle.fort_tree_type_names.proofs.declarations.add_function.Goals as goal

pub returns : goal.returns
returns c =
    three_added _ _ _ _ c.in_ok-add_parameters.ensures c.in_ok-add_type.ensures
    c.in_ok-add_expr.ensures refl
