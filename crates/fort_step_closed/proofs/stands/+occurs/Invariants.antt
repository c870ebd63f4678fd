use Rattle.std.proofs.Common.{◌≡◌, drop}
use Rattle.fort_step_closed.specs.Closed.{occurs_in_all, occurs_in_clauses}
use Rattle.fort_step_closed.proofs.stands.+occurs.Given as goal

abbrev pub invariant-in_all-loop-term : goal.invariant-in_all-loop-term
invariant-in_all-loop-term l =
    occurs_in_all l.variable l.term-items
    ≡ occurs_in_all l.variable (drop l.term-index l.term-items)

abbrev pub invariant-in_clauses-loop-clause : goal.invariant-in_clauses-loop-clause
invariant-in_clauses-loop-clause l =
    occurs_in_clauses l.variable l.clause-items
    ≡ occurs_in_clauses l.variable (drop l.clause-index l.clause-items)
