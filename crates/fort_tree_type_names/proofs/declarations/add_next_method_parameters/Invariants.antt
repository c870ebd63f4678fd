use Rattle.std.proofs.Common.{◌≡◌, ◌++◌, take}
use Rattle.std.specs.List.{flat_map}
use Rattle.fort_tree.specs.declared.declarations.NextMethodParameter.{NextMethodParameter}
use Rattle.fort_tree_type_names.specs.TypeNames.{mentioned_method_parameter}
use Rattle.fort_tree_type_names.proofs.declarations.add_next_method_parameters.Given as goal

abbrev pub invariant-loop-next : goal.invariant-loop-next
invariant-loop-next l =
    l.names ≡ l.initial.names ++ flat_map (λ
    (x : NextMethodParameter). mentioned_method_parameter x.parameter)
    (take l.next-index l.parameters)
