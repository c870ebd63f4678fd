use Rattle.std.proofs.Common.{◌≡◌, ◌++◌, drop}
use Rattle.fort_machine.specs.Substitution.{put_held}
use Rattle.fort_step_subst.specs.Places.{held_behind}
use Rattle.fort_step_subst.proofs.held.put_held.Given as goal

abbrev pub invariant-loop-pair : goal.invariant-loop-pair
invariant-loop-pair l =
    l.put.pairs ++ held_behind l.variable l.value l.put.done (drop l.pair-index l.pair-items)
    ≡ put_held l.variable l.value l.pair-items
