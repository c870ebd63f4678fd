use Rattle.std.proofs.Common.{◌≡◌, length}
use Rattle.fort_types.proofs.Arms.{AreBelow}
use Rattle.fort_types.proofs.terms.+below.Given as goal

abbrev pub invariant-parts_below-loop-i : goal.invariant-parts_below-loop-i
invariant-parts_below-loop-i l =
    record {
      long : length l.left ≡ length l.right;
      each : AreBelow l.table l.up l.left l.right l.i;
    }
