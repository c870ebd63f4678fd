use Rattle.std.proofs.Common.{List, Option, ap}
use Rattle.std.specs.List.{flat_map}
use Rattle.fort_tree.specs.declared.declarations.Parameters.{Parameters}
use Rattle.fort_tree.specs.declared.declarations.NextParameter.{NextParameter}
use Rattle.fort_tree_type_names.specs.Mentions.{mentioned_type, mentioned_parameters}
use Rattle.fort_tree_type_names.proofs.Steps.{by, two_added}
use Rattle.fort_tree_type_names.proofs.types.add_parameters.Goals as goal

pub returns-in_ok-add_next_parameters : goal.returns-in_ok-add_next_parameters
returns-in_ok-add_next_parameters c =
    two_added _ _ _ c.in_ok-add_type.ensures (by (λ
    (l : List NextParameter). flat_map (λ
    (x : NextParameter). mentioned_type x.parameter.ty) l) _ c.as_slice.ensures
    c.in_ok-add_next_parameters.ensures) (ap (λ
    (o : Option Parameters). mentioned_parameters o) c.in-Some.is)
