use Rattle.std.proofs.Common.{◌≤◌}
use Rattle.fort_over_pair.proofs.Counted.{CountsSoFar}
use Rattle.fort_over_pair.proofs.counting.+count.Given as goal

abbrev pub invariant-count_choices-loop-i : goal.invariant-count_choices-loop-i
invariant-count_choices-loop-i l =
    record { few : l.all ≤ 4097; counts : CountsSoFar l.table l.left l.right l.i l.all }
