use Rattle.std.proofs.Common.{◌+◌, ◌*◌, ◌≤◌, length}
use Rattle.fort_core.specs.Weights.{each, weight, value_weight, closure_weight, waits, term_work, spent_weight}
use Rattle.fort_core.proofs.+core.Given as goal

abbrev pub decreases-term::Term::drop : goal.decreases-term::Term::drop
decreases-term::Term::drop l = 2 * weight l.self + 1

abbrev pub decreases-release::drop_spent : goal.decreases-release::drop_spent
decreases-release::drop_spent l = 2 * spent_weight l.spent

abbrev pub decreases-value::Value::drop : goal.decreases-value::Value::drop
decreases-value::Value::drop l = 2 * value_weight l.self + 1

abbrev pub decreases-value::Closure::drop : goal.decreases-value::Closure::drop
decreases-value::Closure::drop l = 2 * closure_weight l.self

abbrev pub decreases-release::drop_values : goal.decreases-release::drop_values
decreases-release::drop_values l = 2 * each value_weight l.values

abbrev pub decreases-release::drop_held : goal.decreases-release::drop_held
decreases-release::drop_held l = 2 * each (λ h. value_weight h.1) l.held

abbrev pub invariant-term::Term::drop-turns : goal.invariant-term::Term::drop-turns
invariant-term::Term::drop-turns l = weight l.hand + waits l.waiting ≤ weight l.initial.hand

abbrev pub decreases-term::Term::drop-turns : goal.decreases-term::Term::drop-turns
decreases-term::Term::drop-turns l = term_work l.hand l.waiting

abbrev pub invariant-release::drop_values-loop-value : goal.invariant-release::drop_values-loop-value
invariant-release::drop_values-loop-value l =
    each value_weight l.values ≤ each value_weight l.initial.values

abbrev pub decreases-release::drop_values-loop-value : goal.decreases-release::drop_values-loop-value
decreases-release::drop_values-loop-value l = length l.values

abbrev pub invariant-release::drop_held-loop-variable : goal.invariant-release::drop_held-loop-variable
invariant-release::drop_held-loop-variable l =
    each (λ h. value_weight h.1) l.held ≤ each (λ h. value_weight h.1) l.initial.held

abbrev pub decreases-release::drop_held-loop-variable : goal.decreases-release::drop_held-loop-variable
decreases-release::drop_held-loop-variable l = length l.held
