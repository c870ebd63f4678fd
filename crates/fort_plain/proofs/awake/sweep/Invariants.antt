use Rattle.fort_store_effects.specs.Levels.{levels_of, seen}
use Rattle.fort_plain.proofs.Sweeping.{SleepsSoFar}
use Rattle.fort_plain.proofs.awake.sweep.Given as goal

abbrev pub invariant-loop-turn : goal.invariant-loop-turn
invariant-loop-turn l =
    SleepsSoFar (seen (levels_of l.course.layers)) l.course.clock l.fn.term l.state
