use Rattle.std.proofs.Common.{◌≤◌}
use Rattle.fort_types.specs.Square.{unset}
use Rattle.fort_types.specs.Rounds.{Holds}
use Rattle.fort_types.proofs.closing.sweep.Given as goal

abbrev pub invariant-loop-a : goal.invariant-loop-a
invariant-loop-a l =
    record { holds : Holds l.types l.rows; no_more : unset l.rows ≤ unset l.initial.rows }

abbrev pub invariant-loop-i : goal.invariant-loop-i
invariant-loop-i l =
    record { holds : Holds l.types l.rows; no_more : unset l.rows ≤ unset l.initial.rows }
