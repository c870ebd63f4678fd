use Rattle.std.proofs.Common.{◌≡◌, take}
use Rattle.fort_step_subst.proofs.parts.shared_clauses.Given as goal

abbrev pub invariant-loop-clause : goal.invariant-loop-clause
invariant-loop-clause l = l.all ≡ take l.clause-index l.clause-items
