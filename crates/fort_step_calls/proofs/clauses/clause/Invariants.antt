use Rattle.std.proofs.Common.{◌≡◌, drop}
use Rattle.fort_core.specs.declared.term.Term.{Term}
use Rattle.fort_machine.specs.Forms.{clause_for}
use Rattle.fort_step_calls.proofs.clauses.clause.Given as goal

abbrev pub invariant-loop-clause : goal.invariant-loop-clause
invariant-loop-clause l =
    (other : Term) (f : Term → Term)
    → clause_for l.program l.value l.clause-items other f
    ≡ clause_for l.program l.value (drop l.clause-index l.clause-items) other f
