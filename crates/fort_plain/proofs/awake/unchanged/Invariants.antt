use Rattle.std.proofs.Common.{take}
use Rattle.fort_store_effects.specs.Levels.{levels_of, seen}
use Rattle.fort_plain.proofs.Watched.{AllThere}
use Rattle.fort_plain.proofs.awake.unchanged.Given as goal

abbrev pub invariant-loop-mark : goal.invariant-loop-mark
invariant-loop-mark l = AllThere (seen (levels_of l.course.layers)) (take l.mark-index l.mark-items)
