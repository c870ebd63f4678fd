use Rattle.std.proofs.Common.{◌≡◌}
use Rattle.fort_typing_known.specs.Read.{facts}
use Rattle.fort_typing_tasks.specs.Tasks.{run}
use Rattle.fort_typing_walk.specs.Walks.{state}
use Rattle.fort_typing_walk.proofs.walk.Walk.run.Given as goal

abbrev pub invariant-tasks : goal.invariant-tasks
invariant-tasks l =
    run (facts l.known) l.tasks (state l.self) ≡ run (facts l.known) l.fn.tasks (state l.fn.self)
