use Rattle.std.proofs.Common.{◌≡◌, drop}
use Rattle.fort_step_closed.specs.Closed.{scoped_all, scoped_clauses}
use Rattle.fort_step_closed.proofs.scopes.+scoped.Given as goal

abbrev pub invariant-in_all-loop-term : goal.invariant-in_all-loop-term
invariant-in_all-loop-term l =
    scoped_all l.term-items l.names ≡ scoped_all (drop l.term-index l.term-items) l.names

abbrev pub invariant-in_clauses-loop-clause : goal.invariant-in_clauses-loop-clause
invariant-in_clauses-loop-clause l =
    scoped_clauses l.clause-items l.names
    ≡ scoped_clauses (drop l.clause-index l.clause-items) l.names
