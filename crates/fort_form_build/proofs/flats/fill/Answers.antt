use Rattle.std.proofs.Common.{◌≡◌, ◌+◌, List, [], ◌∷◌, ◌++◌, Option, Some, None, true, false, refl, sym, ap, ◌∙◌, length, arith, rules}
use Rattle.std.specs.Prelude.{map, option_map}
use Rattle.std.proofs.lemmas.List.{length-map}
use Rattle.fort_base.specs.declared.ty.Ty.{Ty}
use Rattle.fort_form.specs.declared.form.Form.{Form}
use Rattle.fort_form.specs.declared.form.Form.TheVariants as a_form
use Rattle.fort_form_build.proofs.Giving.{of_two, one}
use Rattle.fort_form_build.proofs.flats.fill.Goals as goal

pub returns : goal.returns
returns g c =
    λ size value. of_two (λ
    (s v : Form). a_form.Fill c.args.place c.in_ok-ty.ty s v) (one size c.in_ok-size.ensures)
    (one value c.in_ok-value.ensures) refl
    (ap (λ (t : Ty). a_form.Fill c.args.place t size value) (sym c.in_ok-ty.ensures))
