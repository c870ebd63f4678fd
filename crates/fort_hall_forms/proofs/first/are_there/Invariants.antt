use Rattle.std.proofs.Common.{take}
use Rattle.fort_store_effects.specs.Levels.{levels_of, seen}
use Rattle.fort_hall_books.specs.Legs.{AllThere}
use Rattle.fort_hall_forms.proofs.first.are_there.Given as goal

abbrev pub invariant-loop-mark : goal.invariant-loop-mark
invariant-loop-mark l = AllThere (seen (levels_of l.view)) (take l.mark-index l.mark-items)
