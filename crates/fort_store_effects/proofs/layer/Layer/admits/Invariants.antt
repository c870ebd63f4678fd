use Rattle.std.proofs.Common.{ℕ, ◌<◌, slice_get}
use Rattle.fort_machine.specs.Effects.{afterwards}
use Rattle.fort_store_effects.specs.Levels.{effect_of, levels_of, seen}
use Rattle.fort_store_effects.specs.Calls.{SuitsAt}
use Rattle.fort_store_effects.proofs.layer.Layer.admits.Given as goal

abbrev pub invariant-loop-i : goal.invariant-loop-i
invariant-loop-i l = (j : ℕ) → j < l.i
    → SuitsAt (slice_get l.next.cells.entries j)
    (afterwards (effect_of l.self) (seen (levels_of l.below)))
