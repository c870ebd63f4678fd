use Rattle.std.proofs.Common.{◌≡◌, [], take}
use Rattle.fort_store.specs.Held.{held}
use Rattle.fort_store_effects.specs.Levels.{through, inward}
use Rattle.fort_store_effects.proofs.layers.look_below.Given as goal

abbrev pub invariant-loop-i : goal.invariant-loop-i
invariant-loop-i l =
    through (held l.store) (inward l.below []) l.loc.0
    ≡ through (held l.store) (inward (take l.i l.below) []) l.loc.0
