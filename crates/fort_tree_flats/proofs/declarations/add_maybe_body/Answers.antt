use Rattle.std.proofs.Common.{Option, ap, ◌∙◌}
use Rattle.fort_tree.specs.declared.declarations.MethodBody.{MethodBody}
use Rattle.fort_tree.specs.Limits.{measured_body}
use Rattle.fort_tree.specs.Measured.{all_flats}
use Rattle.fort_tree.specs.Measuring.{measured_expr}
use Rattle.fort_tree_flats.proofs.Lists.{last}
use Rattle.fort_tree_flats.proofs.Steps.{one_added}
use Rattle.fort_tree_flats.proofs.declarations.add_maybe_body.Goals as goal

pub returns-in_ok-add_expr : goal.returns-in_ok-add_expr
returns-in_ok-add_expr c =
    one_added _ c.in_ok-add_expr.ensures (ap (λ
    (o : Option MethodBody). all_flats (measured_body o)) c.in-Some.is
    ∙ last (measured_expr c.in-Some.body.body))
