use Rattle.std.proofs.Common.{Option, Bool, false, unwrap_or, ap, ◌∙◌}
use Rattle.std.proofs.lemmas.Option.{unwrap_or-slice_get}
use Rattle.fort_over.proofs.uncovered.is_object.Goals as goal

pub returns-in-None : goal.returns-in-None
returns-in-None c =
    ap (λ (z : Option Bool). unwrap_or z false) c.in-None.ensures.value
    ∙ unwrap_or-slice_get c.args.members.now.objects c.args.ty.0 false
