use Rattle.std.proofs.Common.{◌≡◌, ◌++◌, take}
use Rattle.std.specs.List.{flat_map}
use Rattle.fort_tree.specs.declared.declarations.NextObjectParameter.{NextObjectParameter}
use Rattle.fort_tree_type_names.specs.Mentions.{mentioned_type}
use Rattle.fort_tree_type_names.proofs.declarations.add_next_object_parameters.Given as goal

abbrev pub invariant-loop-next : goal.invariant-loop-next
invariant-loop-next l =
    l.names ≡ l.initial.names ++ flat_map (λ
    (x : NextObjectParameter). mentioned_type x.parameter.ty) (take l.next-index l.parameters)
