use Rattle.std.proofs.Common.{Contains, sym, subst}
use Rattle.std.proofs.lemmas.List.{take_all, take_more}
use Rattle.fort_base.specs.Places.{IsFirst}
use Rattle.fort_link_rules.proofs.Earliest.{first_none, first_push}
use Rattle.fort_link_rules.proofs.places.earliest.Goals as goal

pub loop-place-init : goal.loop-place-init
loop-place-init c = first_none

pub loop-place-preserved : goal.loop-place-preserved
loop-place-preserved c =
    subst (λ xs. IsFirst (Contains xs) c.earlier-best.result)
    (sym (take_more c.args.places.now c.loop-place.place-index _ c.loop-place-test.true))
    (first_push _ _ c.loop-place.best c.earlier-best.result c.loop-place.invariant
    c.earlier-best.ensures)

pub returns : goal.returns
returns c =
    subst (λ xs. IsFirst (Contains xs) c.loop-place.best)
    (take_all c.loop-place.place-index c.args.places.now c.loop-place-test.false)
    c.loop-place.invariant
