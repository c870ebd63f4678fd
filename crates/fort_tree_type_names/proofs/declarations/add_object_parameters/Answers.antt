use Rattle.std.proofs.Common.{Option, ap}
use Rattle.fort_tree.specs.declared.declarations.ObjectParameters.{ObjectParameters}
use Rattle.fort_tree_type_names.specs.TypeNames.{mentioned_object_parameters}
use Rattle.fort_tree_type_names.proofs.Steps.{one_added}
use Rattle.fort_tree_type_names.proofs.declarations.add_object_parameters.Goals as goal

pub returns-in_ok-add_object_parameter_list : goal.returns-in_ok-add_object_parameter_list
returns-in_ok-add_object_parameter_list c =
    one_added _ c.in_ok-add_object_parameter_list.ensures (ap (λ
    (o : Option ObjectParameters). mentioned_object_parameters o) c.in-Some.is)
