use Rattle.std.proofs.Common.{◌≡◌, length}
use Rattle.fort_types.proofs.Arms.{NoneApart}
use Rattle.fort_types.proofs.terms.+apart.Given as goal

abbrev pub invariant-parts_apart-loop-i : goal.invariant-parts_apart-loop-i
invariant-parts_apart-loop-i l =
    record { long : length l.left ≡ length l.right; none : NoneApart l.table l.left l.right l.i }
