use Rattle.fort_machine.specs.Effects.{afterwards}
use Rattle.fort_store_effects.specs.Calls.{AreFree}
use Rattle.fort_store_effects.specs.Levels.{effect_of, levels_of, seen}
use Rattle.fort_walk_stretch.proofs.steps.are_free.Given as goal

abbrev pub invariant-loop-next : goal.invariant-loop-next
invariant-loop-next l =
    AreFree l.stretch.fresh l.next (afterwards (effect_of l.stretch.done) (seen (levels_of l.view)))
