use Rattle.std.proofs.Common.{List, ap}
use Rattle.std.specs.Prelude.{map}
use Rattle.fort_tree.specs.declared.declarations.Names.{Names}
use Rattle.fort_tree.specs.declared.spot.NextName.{NextName}
use Rattle.fort_tree_type_names.specs.TypeNames.{listed_names}
use Rattle.fort_tree_type_names.proofs.Steps.{by, one_added, two_added}
use Rattle.fort_tree_type_names.proofs.declarations.add_names.Goals as goal

pub returns-in_ok-push-in-One : goal.returns-in_ok-push-in-One
returns-in_ok-push-in-One c =
    one_added _ c.in_ok-push-in-One.ensures.ok (ap (λ (x : Names). listed_names x) c.in-One.is)

pub returns-in_ok-add_next_names-in-Braces : goal.returns-in_ok-add_next_names-in-Braces
returns-in_ok-add_next_names-in-Braces c =
    two_added _ _ _ c.in_ok-push-in-Braces.ensures.ok (by (λ
    (l : List NextName). map (λ
    (n : NextName). n.name) l) _ c.as_slice.ensures c.in_ok-add_next_names-in-Braces.ensures)
    (ap (λ (x : Names). listed_names x) c.in-Braces.is)
