use Rattle.std.proofs.Common.{[], ◌∷◌, refl}
use Rattle.fort_form.specs.declared.form.Form.{Form}
use Rattle.fort_form_meaning.specs.Formed.{formed_head}
use Rattle.fort_form_meaning.specs.Forming.{assignment}
use Rattle.fort_form_build.proofs.Giving.{of_two, one, remade, then_by}
use Rattle.fort_form_build.proofs.expressions.assigned_behind_head.Goals as goal

pub returns : goal.returns
returns g c =
    let k = g.L.Lookup.source c.args.lookup.now in
    λ target value. then_by (formed_head k c.args.head.now)
    (remade c.in_ok-body.ensures (of_two (λ
    (t v : Form). assignment t c.args.sign v) (one target c.in_ok-target.ensures)
    (one value c.in_ok-value.ensures) refl refl))
    c.in_ok-form.ensures refl refl
