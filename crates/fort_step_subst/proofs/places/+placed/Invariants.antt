use Rattle.std.proofs.Common.{◌≡◌, ◌++◌, false, take, drop, map}
use Rattle.fort_step_subst.specs.Changes.{clauses_by}
use Rattle.fort_step_subst.specs.Places.{placed}
use Rattle.fort_step_subst.proofs.places.+placed.Given as goal

abbrev pub invariant-in_all-loop-term : goal.invariant-in_all-loop-term
invariant-in_all-loop-term l =
    (l.made ++ map (placed l.put) (drop l.term-index l.term-items)
    ≡ map (placed l.put) l.term-items)
    × (l.changed ≡ false → l.made ≡ take l.term-index l.term-items)

abbrev pub invariant-in_clauses-loop-clause : goal.invariant-in_clauses-loop-clause
invariant-in_clauses-loop-clause l =
    (l.made ++ clauses_by (placed l.put) (drop l.clause-index l.clause-items)
    ≡ clauses_by (placed l.put) l.clause-items)
    × (l.changed ≡ false → l.made ≡ take l.clause-index l.clause-items)
