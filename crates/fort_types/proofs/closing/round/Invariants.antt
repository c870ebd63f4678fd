use Rattle.fort_types.specs.Rounds.{Holds, Progress, ClosedTo}
use Rattle.fort_types.proofs.closing.round.Given as goal

abbrev pub invariant-loop-a : goal.invariant-loop-a
invariant-loop-a l = record {
  holds : Holds l.types l.rows;
  progress : Progress l.initial.rows l.rows l.grown (ClosedTo l.types l.initial.rows l.a);
}
