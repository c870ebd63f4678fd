use Rattle.std.proofs.Common.{ap}
use Rattle.fort_tree.specs.declared.declarations.MethodParameter.{MethodParameter}
use Rattle.fort_tree_type_names.specs.TypeNames.{mentioned_method_parameter}
use Rattle.fort_tree_type_names.proofs.Steps.{nothing_added, one_added}
use Rattle.fort_tree_type_names.proofs.declarations.add_method_parameter.Goals as goal

pub returns-in_ok-add_type-in-Parameter : goal.returns-in_ok-add_type-in-Parameter
returns-in_ok-add_type-in-Parameter c =
    one_added _ c.in_ok-add_type-in-Parameter.ensures (ap (λ
    (x : MethodParameter). mentioned_method_parameter x) c.in-Parameter.is)

pub returns-in-Self_ : goal.returns-in-Self_
returns-in-Self_ c =
    nothing_added _ (ap (λ (x : MethodParameter). mentioned_method_parameter x) c.in-Self_.is)
