use Rattle.std.proofs.Common.{◌≡◌, ◌+◌, List, [], ◌∷◌, ◌++◌, Option, Some, None, true, false, refl, sym, ap, ◌∙◌, length, arith}
use Rattle.std.specs.Prelude.{map, option_map}
use Rattle.std.proofs.lemmas.List.{length-map}
use Rattle.fort_form.specs.declared.form.Form.{Form}
use Rattle.fort_form.specs.declared.form.Form.TheVariants as a_form
use Rattle.fort_form_meaning.specs.Forming.{begins}
use Rattle.fort_form_build.proofs.Giving.{of_one, remade}
use Rattle.fort_form_build.proofs.Splitting.{as_many}
use Rattle.fort_form_build.proofs.flats.binary.Goals as goal

pub returns : goal.returns
returns c =
    λ left right. remade
    (ap (λ p. a_form.Operator p c.args.op c.in_ok-sides.sides) c.first_place.ensures)
    (of_one (λ
    (xs : List Form). a_form.Operator (begins xs) c.args.op xs)
    (as_many (left ∷ right ∷ []) c.in_ok-sides.ensures.taken c.in_ok-sides.ensures.count)
    refl refl)
