use Rattle.std.proofs.Common.{◌≡◌, true}
use Rattle.fort_types.specs.Types.{IsNumbered}
use Rattle.fort_form_law_shapes.proofs.Trees as trees
use Rattle.fort_form_law_shapes.proofs.laws.forms_are_fit.Goals as goal

pub returns : goal.returns
returns c = λ n known k S e h. trees.expr_good (IsNumbered n) (λ x. known x ≡ true) k S e h
