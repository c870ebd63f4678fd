use Rattle.fort_machine.specs.Effects.{afterwards}
use Rattle.fort_store_effects.specs.Levels.{effect_of, levels_of, seen}
use Rattle.fort_walk_stretch.proofs.Stepping.{all_free, none_there, one_free}
use Rattle.fort_walk_stretch.proofs.steps.are_free.Goals as goal

pub loop-next-init : goal.loop-next-init
loop-next-init c =
    none_there c.args.stretch.now.fresh
    (afterwards (effect_of c.args.stretch.now.done) (seen (levels_of c.args.view.now)))

pub loop-next-preserved : goal.loop-next-preserved
loop-next-preserved c =
    one_free c.args.stretch.now.fresh c.loop-next.next
    (afterwards (effect_of c.args.stretch.now.done) (seen (levels_of c.args.view.now)))
    c.loop-next.invariant (c.is_there.ensures c.if-is_there.false)
