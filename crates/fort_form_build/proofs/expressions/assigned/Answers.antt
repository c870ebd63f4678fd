use Rattle.std.proofs.Common.{refl}
use Rattle.std.specs.Prelude.{option_map}
use Rattle.fort_form.specs.declared.form.Form.{Form}
use Rattle.fort_form_meaning.specs.Formed.{formed_head}
use Rattle.fort_form_meaning.specs.Forming.{assignment, opened}
use Rattle.fort_form_build.proofs.Giving.{of_two, one, remade, then_by}
use Rattle.fort_form_build.proofs.expressions.assigned.Goals as goal

pub returns : goal.returns
returns g c =
    let k = g.L.Lookup.source c.args.lookup.now in
    λ target value. remade c.in_ok-form.ensures (of_two (λ
    (t v : Form). assignment t c.args.sign v) (one target c.in_ok-target.ensures)
    (then_by (opened (option_map (formed_head k) c.args.head.now)) (one value c.in_ok-value.ensures)
    c.in_ok-whole.ensures refl refl) refl refl)
