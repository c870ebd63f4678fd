use Rattle.std.proofs.Common.{◌≡◌, ◌≤◌, ◌↔◌, take, length}
use Rattle.fort_core.specs.declared.term.Term.{size-Term}
use Rattle.fort_core.proofs.+same.Given as goal

abbrev pub invariant-term::Term::same-along : goal.invariant-term::Term::same-along
invariant-term::Term::same-along l = ((l.self ≡ l.other) ↔ (l.left ≡ l.right))
    × (size-Term l.left ≤ size-Term l.self)

abbrev pub invariant-same_parts::same_clauses-loop-i : goal.invariant-same_parts::same_clauses-loop-i
invariant-same_parts::same_clauses-loop-i l = (length l.a ≡ length l.b)
    × (take l.i l.a ≡ take l.i l.b)

abbrev pub invariant-same_parts::same_held-loop-i : goal.invariant-same_parts::same_held-loop-i
invariant-same_parts::same_held-loop-i l = (length l.a ≡ length l.b) × (take l.i l.a ≡ take l.i l.b)

abbrev pub invariant-same_parts::same_marks-loop-i : goal.invariant-same_parts::same_marks-loop-i
invariant-same_parts::same_marks-loop-i l = (length l.a ≡ length l.b)
    × (take l.i l.a ≡ take l.i l.b)

abbrev pub invariant-same_parts::same_terms-loop-i : goal.invariant-same_parts::same_terms-loop-i
invariant-same_parts::same_terms-loop-i l = (length l.a ≡ length l.b)
    × (take l.i l.a ≡ take l.i l.b)

abbrev pub invariant-same_parts::same_values-loop-i : goal.invariant-same_parts::same_values-loop-i
invariant-same_parts::same_values-loop-i l = (length l.a ≡ length l.b)
    × (take l.i l.a ≡ take l.i l.b)
