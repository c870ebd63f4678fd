use Rattle.std.proofs.Common.{◌∙◌, sym}
use Rattle.fort_typing_known.specs.Sets.{has_name}
use Rattle.fort_typing_known.proofs.Searched.{name_tells, any_first, any_step, step_falls}
use Rattle.fort_typing_known.proofs.sets.any_named.Goals as goal

pub loop-next-init : goal.loop-next-init
loop-next-init c =
    any_first (has_name c.args.name.now c.args.dotted) c.args.name.now
    (name_tells c.args.name.now c.args.dotted) _ _ _ c.as_slice-sets.ensures
    c.set_named-next.ensures

pub loop-next-smaller : goal.loop-next-smaller
loop-next-smaller c =
    step_falls c.args.name.now _ _ c.in-Some.number c.index-sets-number.result _ _
    c.as_slice-sets.ensures c.in-Some.is c.index-sets-number.is c.set_behind-next.ensures
    c.loop-next.invariant.1

pub loop-next-preserved : goal.loop-next-preserved
loop-next-preserved c =
    any_step (has_name c.args.name.now c.args.dotted) c.args.name.now
    (name_tells c.args.name.now c.args.dotted) _ _ c.in-Some.number c.index-sets-number.result _ _
    c.as_slice-sets.ensures c.in-Some.is c.index-sets-number.is (sym c.has_name.ensures
    ∙ c.if-has_name.false)
    c.set_behind-next.ensures c.loop-next.invariant
