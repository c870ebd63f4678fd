use Rattle.std.proofs.Common.{drop}
use Rattle.fort_machine.specs.Parts.{in_clauses}
use Rattle.fort_sound_tables.specs.Leaves.{AllLeave, AllLeaveValues}
use Rattle.fort_sound_tables.proofs.leaves.+leaves.Given as goal

abbrev pub invariant-all_leave-loop-term : goal.invariant-all_leave-loop-term
invariant-all_leave-loop-term l =
    AllLeave l.program l.x (drop l.term-index l.term-items) → AllLeave l.program l.x l.term-items

abbrev pub invariant-clauses_leave-loop-clause : goal.invariant-clauses_leave-loop-clause
invariant-clauses_leave-loop-clause l =
    AllLeave l.program l.x (in_clauses (drop l.clause-index l.clause-items))
    → AllLeave l.program l.x (in_clauses l.clause-items)

abbrev pub invariant-values_leave-loop-value : goal.invariant-values_leave-loop-value
invariant-values_leave-loop-value l =
    AllLeaveValues l.program l.x (drop l.value-index l.value-items)
    → AllLeaveValues l.program l.x l.value-items
