use Rattle.std.proofs.Common.{Option, ap}
use Rattle.fort_tree.specs.declared.declarations.Extends.{Extends}
use Rattle.fort_tree_type_names.specs.TypeNames.{extended}
use Rattle.fort_tree_type_names.proofs.Steps.{one_added}
use Rattle.fort_tree_type_names.proofs.declarations.add_extends.Goals as goal

pub returns-in_ok-add_names : goal.returns-in_ok-add_names
returns-in_ok-add_names c =
    one_added _ c.in_ok-add_names.ensures (ap (λ (o : Option Extends). extended o) c.in-Some.is)
