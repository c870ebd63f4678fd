use Rattle.std.proofs.Common.{◌≡◌, ◌+◌, List, [], ◌∷◌, ◌++◌, Option, Some, None, true, false, refl, sym, ap, ◌∙◌, length, arith}
use Rattle.std.specs.Prelude.{map, option_map}
use Rattle.std.proofs.lemmas.List.{length-map}
use Rattle.fort_form.specs.declared.form.Form.{Form}
use Rattle.fort_form.specs.declared.form.Form.TheVariants as a_form
use Rattle.fort_form_meaning.specs.Forming.{begins}
use Rattle.fort_form_build.proofs.Giving.{of_one}
use Rattle.fort_form_build.proofs.Splitting.{as_many}
use Rattle.fort_form_build.proofs.flats.prefixed.Goals as goal

pub returns : goal.returns
returns c =
    λ run. of_one (λ
    (xs : List Form). a_form.Operator c.args.place c.args.op xs)
    (as_many (run ∷ []) c.in_ok-operand.ensures.taken c.in_ok-operand.ensures.count) refl refl
