use Rattle.std.proofs.Common.{List, Option, ap}
use Rattle.std.specs.List.{flat_map}
use Rattle.fort_tree.specs.declared.declarations.ObjectParameterList.{ObjectParameterList}
use Rattle.fort_tree.specs.declared.declarations.NextObjectParameter.{NextObjectParameter}
use Rattle.fort_tree_type_names.specs.Mentions.{mentioned_type}
use Rattle.fort_tree_type_names.specs.TypeNames.{mentioned_object_parameter_list}
use Rattle.fort_tree_type_names.proofs.Steps.{by, two_added}
use Rattle.fort_tree_type_names.proofs.declarations.add_object_parameter_list.Goals as goal

pub returns-in_ok-add_next_object_parameters : goal.returns-in_ok-add_next_object_parameters
returns-in_ok-add_next_object_parameters c =
    two_added _ _ _ c.in_ok-add_type.ensures (by (λ
    (l : List NextObjectParameter). flat_map (λ
    (x : NextObjectParameter). mentioned_type x.parameter.ty) l) _ c.as_slice.ensures
    c.in_ok-add_next_object_parameters.ensures) (ap (λ
    (o : Option ObjectParameterList). mentioned_object_parameter_list o) c.in-Some.is)
