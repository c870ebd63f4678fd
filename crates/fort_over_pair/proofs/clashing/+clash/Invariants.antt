use Rattle.std.proofs.Common.{◌≡◌, length}
use Rattle.fort_types_sets.specs.Meets.{ArrowsClash}
use Rattle.fort_over_pair.proofs.Places.{NoneTo}
use Rattle.fort_over_pair.proofs.clashing.+clash.Given as goal

abbrev pub invariant-parts_clash-loop-i : goal.invariant-parts_clash-loop-i
invariant-parts_clash-loop-i l =
    record {
      long : length l.left ≡ length l.right;
      none : NoneTo l.table ArrowsClash l.left l.right l.i;
    }
