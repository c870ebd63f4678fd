use Rattle.std.proofs.Common.{Some, ap, refl}
use Rattle.fort_tree.specs.declared.expr.Prefix.{Prefix}
use Rattle.fort_form_meaning.specs.Forming.{prefixed}
use Rattle.fort_form_build.proofs.Giving.{named_as}
use Rattle.fort_form_build.proofs.flats.signed.Goals as goal

pub returns-in_ok-prefixed-in-Minus : goal.returns-in_ok-prefixed-in-Minus
returns-in_ok-prefixed-in-Minus c =
    λ run. named_as (c.in_ok-prefixed-in-Minus.ensures run) refl (ap (λ
    (p : Prefix). prefixed (Some p) run) c.in-Minus.is)

pub returns-in_ok-prefixed-in-Not : goal.returns-in_ok-prefixed-in-Not
returns-in_ok-prefixed-in-Not c =
    λ run. named_as (c.in_ok-prefixed-in-Not.ensures run) refl (ap (λ
    (p : Prefix). prefixed (Some p) run) c.in-Not.is)
