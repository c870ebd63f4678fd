use Rattle.std.proofs.Common.{◌≡◌, [], length}
use Rattle.fort_link.specs.Whole.{components, all_declared_before}
use Rattle.fort_link.proofs.whole.declarations.Given as goal

abbrev pub invariant-loop-unit : goal.invariant-loop-unit
invariant-loop-unit l =
    all_declared_before (components l.units) l.others
    ≡ all_declared_before (components l.initial.units) []

abbrev pub decreases-loop-unit : goal.decreases-loop-unit
decreases-loop-unit l = length l.units
