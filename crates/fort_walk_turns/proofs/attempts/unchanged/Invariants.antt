use Rattle.std.proofs.Common.{take}
use Rattle.fort_store_effects.specs.Levels.{levels_of, seen}
use Rattle.fort_walk_turns.proofs.Watched.{AllThere}
use Rattle.fort_walk_turns.proofs.attempts.unchanged.Given as goal

abbrev pub invariant-loop-mark : goal.invariant-loop-mark
invariant-loop-mark l = AllThere (seen (levels_of l.course.layers)) (take l.mark-index l.mark-items)
