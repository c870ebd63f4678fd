use Rattle.std.proofs.Common.{◌∙◌, sym}
use Rattle.fort_typing_known.specs.Sets.{is_set_of}
use Rattle.fort_typing_known.proofs.Searched.{set_tells, first_first, first_step, step_falls}
use Rattle.fort_typing_known.proofs.sets.first_set.Goals as goal

pub loop-next-init : goal.loop-next-init
loop-next-init c =
    first_first (is_set_of c.args.name.now c.args.dotted c.args.width) c.args.name.now
    (set_tells c.args.name.now c.args.dotted c.args.width) _ _ _ c.as_slice-sets.ensures
    c.set_named-next.ensures

pub loop-next-smaller : goal.loop-next-smaller
loop-next-smaller c =
    step_falls c.args.name.now _ _ c.in-Some.number c.index-sets-number.result _ _
    c.as_slice-sets.ensures c.in-Some.is c.index-sets-number.is c.set_behind-next.ensures
    c.loop-next.invariant.1

pub loop-next-preserved : goal.loop-next-preserved
loop-next-preserved c =
    first_step (is_set_of c.args.name.now c.args.dotted c.args.width) c.args.name.now
    (set_tells c.args.name.now c.args.dotted c.args.width) _ _ c.in-Some.number
    c.index-sets-number.result _ _ c.as_slice-sets.ensures c.in-Some.is c.index-sets-number.is
    (sym c.is_set_of.ensures ∙ c.if-is_set_of.false)
    c.set_behind-next.ensures c.loop-next.invariant
