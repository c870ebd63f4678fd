use Rattle.std.proofs.Common.{take}
use Rattle.fort_machine.specs.Effects.{afterwards}
use Rattle.fort_store_effects.specs.Levels.{effect_of, levels_of, seen}
use Rattle.fort_hall_books.specs.Legs.{AllThere}
use Rattle.fort_hall_books.proofs.submit.unchanged.Given as goal

abbrev pub invariant-loop-mark : goal.invariant-loop-mark
invariant-loop-mark l =
    AllThere (afterwards (effect_of l.done) (seen (levels_of l.view)))
    (take l.mark-index l.mark-items)
