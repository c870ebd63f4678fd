use Rattle.std.proofs.Common.{◌≡◌, length}
use Rattle.fort_types.specs.Types.{Below}
use Rattle.fort_over_pair.proofs.Places.{EachTo}
use Rattle.fort_over_pair.proofs.order.all_below.Given as goal

abbrev pub invariant-loop-i : goal.invariant-loop-i
invariant-loop-i l =
    record { long : length l.left ≡ length l.right; each : EachTo l.table Below l.left l.right l.i }
