use Rattle.std.proofs.Common.{◌≡◌, ◌+◌, List, [], ◌∷◌, ◌++◌, Option, Some, None, true, false, refl, sym, ap, ◌∙◌, length, arith}
use Rattle.std.specs.Prelude.{map, option_map}
use Rattle.std.proofs.lemmas.List.{length-map}
use Rattle.fort_form.specs.declared.form.Form.{Form}
use Rattle.fort_form.specs.declared.form.Form.TheVariants as a_form
use Rattle.fort_form_meaning.specs.Forming.{begins}
use Rattle.fort_form_build.proofs.Giving.{of_one, remade}
use Rattle.fort_form_build.proofs.Splitting.{as_many}
use Rattle.fort_form_build.proofs.flats.beside.Goals as goal

pub returns : goal.returns
returns c = λ units e. remade (ap (λ p. a_form.Beside p c.in_ok-units.units) c.first_place.ensures)
    (of_one (λ
    (xs : List Form). a_form.Beside (begins xs) xs)
    (as_many units c.in_ok-units.ensures.taken (c.in_ok-units.ensures.count ∙ sym e)) refl
    refl)
