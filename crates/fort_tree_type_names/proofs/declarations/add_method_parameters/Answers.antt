use Rattle.std.proofs.Common.{List, Option, ap}
use Rattle.std.specs.List.{flat_map}
use Rattle.fort_tree.specs.declared.declarations.MethodParameters.{MethodParameters}
use Rattle.fort_tree.specs.declared.declarations.NextMethodParameter.{NextMethodParameter}
use Rattle.fort_tree_type_names.specs.TypeNames.{mentioned_method_parameter, mentioned_method_parameters}
use Rattle.fort_tree_type_names.proofs.Steps.{by, two_added}
use Rattle.fort_tree_type_names.proofs.declarations.add_method_parameters.Goals as goal

pub returns-in_ok-add_next_method_parameters : goal.returns-in_ok-add_next_method_parameters
returns-in_ok-add_next_method_parameters c =
    two_added _ _ _ c.in_ok-add_method_parameter.ensures (by (λ
    (l : List NextMethodParameter). flat_map (λ
    (x : NextMethodParameter). mentioned_method_parameter x.parameter) l) _ c.as_slice.ensures
    c.in_ok-add_next_method_parameters.ensures) (ap (λ
    (o : Option MethodParameters). mentioned_method_parameters o) c.in-Some.is)
