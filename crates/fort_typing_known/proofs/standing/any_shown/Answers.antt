use Rattle.std.proofs.Common.{◌∙◌, sym}
use Rattle.fort_typing_known.specs.Names.{shows}
use Rattle.fort_typing_known.proofs.Searched.{showing_tells, any_first, any_step, step_falls}
use Rattle.fort_typing_known.proofs.standing.any_shown.Goals as goal

pub loop-next-init : goal.loop-next-init
loop-next-init c =
    any_first (shows c.args.spelling.now) c.args.spelling.now (showing_tells c.args.spelling.now) _
    _ _ c.as_slice-sets.ensures c.set_named-next.ensures

pub loop-next-smaller : goal.loop-next-smaller
loop-next-smaller c =
    step_falls c.args.spelling.now _ _ c.in-Some.number c.index-sets-number.result _ _
    c.as_slice-sets.ensures c.in-Some.is c.index-sets-number.is c.set_behind-next.ensures
    c.loop-next.invariant.1

pub loop-next-preserved : goal.loop-next-preserved
loop-next-preserved c =
    any_step (shows c.args.spelling.now) c.args.spelling.now (showing_tells c.args.spelling.now) _ _
    c.in-Some.number c.index-sets-number.result _ _ c.as_slice-sets.ensures c.in-Some.is
    c.index-sets-number.is (sym c.shows.ensures ∙ c.if-shows.false)
    c.set_behind-next.ensures c.loop-next.invariant
