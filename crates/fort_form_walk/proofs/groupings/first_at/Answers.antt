use Rattle.std.proofs.Common.{refl, sym, ◌∙◌}
use Rattle.std.proofs.lemmas.Option.{slice_get_read}
use Rattle.fort_form_walk.proofs.Orders.{first_there, none_there, none_yet, one_later}
use Rattle.fort_form_walk.proofs.groupings.first_at.Goals as goal

pub loop-group-init : goal.loop-group-init
loop-group-init c = none_yet _ _

pub loop-group-preserved : goal.loop-group-preserved
loop-group-preserved c =
    one_later _ _ _ c.group-item.result c.loop-group.invariant
    (slice_get_read _ _ _ _ refl c.loop-group-test.true c.group-item.is) (sym c.eq.ensures
    ∙ c.if-eq.false)

pub returns-then-eq : goal.returns-then-eq
returns-then-eq c =
    sym (first_there _ _ _ c.group-item.result c.loop-group.invariant
    (slice_get_read _ _ _ _ refl c.loop-group-test.true c.group-item.is) (sym c.eq.ensures
    ∙ c.if-eq.true))

pub returns : goal.returns
returns c = sym (none_there _ _ _ c.loop-group.invariant c.loop-group-test.false)
