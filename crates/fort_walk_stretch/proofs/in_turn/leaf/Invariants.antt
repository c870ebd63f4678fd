use Rattle.std.proofs.Common.{◌≡◌}
use Rattle.fort_store_effects.specs.Levels.{levels_of, seen}
use Rattle.fort_frames.specs.States.{term_at}
use Rattle.fort_walk_stretch.specs.Stretches.{IsOn}
use Rattle.fort_walk_stretch.proofs.in_turn.leaf.Given as goal

abbrev pub invariant-loop-turn : goal.invariant-loop-turn
invariant-loop-turn l =
    IsOn l.tables.program.now l.inner (seen (levels_of l.view)) l.room l.stretch l.state.place
    (term_at l.state.«at») × (l.stretch.first ≡ l.fn.part)
