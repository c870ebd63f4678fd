use Rattle.std.proofs.Common.{◌≡◌, ◌+◌, List, [], ◌∷◌, ◌++◌, Option, Some, None, true, false, refl, sym, ap, ◌∙◌, length, arith}
use Rattle.std.specs.Prelude.{map, option_map}
use Rattle.std.proofs.lemmas.List.{length-map}
use Rattle.fort_form.specs.declared.form.Form.{Form}
use Rattle.fort_form.specs.declared.form.Form.TheVariants as a_form
use Rattle.fort_form_meaning.specs.Forming.{begins}
use Rattle.fort_form_build.proofs.Giving.{of_one, remade}
use Rattle.fort_form_build.proofs.Splitting.{as_many}
use Rattle.fort_form_build.proofs.flats.chain.Goals as goal

pub returns : goal.returns
returns c =
    λ sides e. remade
    (ap (λ p. a_form.Chain p c.in_ok-relations.relations c.in_ok-sides.sides) c.first_place.ensures
    ∙ ap (λ ops. a_form.Chain (begins c.in_ok-sides.sides) ops c.in_ok-sides.sides)
    c.in_ok-relations.ensures)
    (of_one (λ
    (xs : List Form). a_form.Chain (begins xs) c.args.ops.now xs)
    (as_many sides c.in_ok-sides.ensures.taken (c.in_ok-sides.ensures.count ∙ sym e)) refl
    refl)
