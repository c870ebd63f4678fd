use Rattle.std.proofs.Common.{ap}
use Rattle.fort_tree.specs.declared.declarations.Declaration.{Declaration}
use Rattle.fort_tree_type_names.specs.TypeNames.{mentioned_declaration}
use Rattle.fort_tree_type_names.proofs.Steps.{one_added}
use Rattle.fort_tree_type_names.proofs.declarations.add_declaration.Goals as goal

pub returns-in_ok-add_variable-in-Variable : goal.returns-in_ok-add_variable-in-Variable
returns-in_ok-add_variable-in-Variable c =
    one_added _ c.in_ok-add_variable-in-Variable.ensures (ap (λ
    (x : Declaration). mentioned_declaration x) c.in-Variable.is)

pub returns-in_ok-add_function-in-Function : goal.returns-in_ok-add_function-in-Function
returns-in_ok-add_function-in-Function c =
    one_added _ c.in_ok-add_function-in-Function.ensures (ap (λ
    (x : Declaration). mentioned_declaration x) c.in-Function.is)

pub returns-in_ok-add_trait-in-Trait : goal.returns-in_ok-add_trait-in-Trait
returns-in_ok-add_trait-in-Trait c =
    one_added _ c.in_ok-add_trait-in-Trait.ensures (ap (λ
    (x : Declaration). mentioned_declaration x) c.in-Trait.is)

pub returns-in_ok-add_object-in-Object : goal.returns-in_ok-add_object-in-Object
returns-in_ok-add_object-in-Object c =
    one_added _ c.in_ok-add_object-in-Object.ensures (ap (λ
    (x : Declaration). mentioned_declaration x) c.in-Object.is)
