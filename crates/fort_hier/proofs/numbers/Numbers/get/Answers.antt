use Rattle.std.proofs.Common.{sym, subst}
use Rattle.fort_hier.specs.Numbers.{NumberIs}
use Rattle.fort_hier.proofs.numbers.Numbers.get.Goals as goal

pub returns-in-Some : goal.returns-in-Some
returns-in-Some c =
    λ list h. subst (NumberIs list c.args.spelling.now) (sym c.in-Some.ensures.value)
    (h.knows c.args.spelling.now)

pub returns-in-None : goal.returns-in-None
returns-in-None c =
    λ list h. subst (NumberIs list c.args.spelling.now) (sym c.in-None.ensures.value)
    (h.knows c.args.spelling.now)
