use Rattle.fort_types.specs.Rounds.{Holds, Progress, ClosedIn}
use Rattle.fort_types.proofs.closing.grow_row.Given as goal

abbrev pub invariant-loop-b : goal.invariant-loop-b
invariant-loop-b l = record {
  holds : Holds l.types l.rows;
  progress : Progress l.initial.rows l.rows l.grown (ClosedIn l.types l.initial.rows l.a l.b);
}
