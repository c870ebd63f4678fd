use Rattle.std.proofs.Common.{Option, None, unwrap_or, ap, ◌∙◌}
use Rattle.std.proofs.lemmas.Option.{unwrap_or-slice_get}
use Rattle.fort_base.specs.declared.refusal.Place.{Place}
use Rattle.fort_over.specs.Standing.{standing}
use Rattle.fort_over.proofs.uncovered.object_place.Goals as goal

pub returns-in-None : goal.returns-in-None
returns-in-None c =
    c.standing-in-None.ensures
    ∙ ap standing (ap (λ
    (z : Option (Option Place)). unwrap_or z None) c.in-None.ensures.value
    ∙ unwrap_or-slice_get c.args.members.now.places c.args.ty.0 None)
