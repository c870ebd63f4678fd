use Rattle.std.proofs.Common.{refl}
use Rattle.fort_form_meaning.specs.Formed.{formed_head}
use Rattle.fort_form_build.proofs.Giving.{one, then_by}
use Rattle.fort_form_build.proofs.expressions.behind_head.Goals as goal

pub returns : goal.returns
returns g c =
    let k = g.L.Lookup.source c.args.lookup.now in
    λ body. then_by (formed_head k c.args.head.now) (one body c.in_ok-body.ensures)
    c.in_ok-form.ensures refl refl
