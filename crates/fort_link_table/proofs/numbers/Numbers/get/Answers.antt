use Rattle.std.proofs.Common.{sym, subst}
use Rattle.fort_link_table.specs.Numbers.{NumberIs}
use Rattle.fort_link_table.proofs.numbers.Numbers.get.Goals as goal

pub returns-in-Some : goal.returns-in-Some
returns-in-Some c =
    λ names h. subst (NumberIs names c.args.spelling.now) (sym c.in-Some.ensures.value)
    (h.knows c.args.spelling.now)

pub returns-in-None : goal.returns-in-None
returns-in-None c =
    λ names h. subst (NumberIs names c.args.spelling.now) (sym c.in-None.ensures.value)
    (h.knows c.args.spelling.now)
