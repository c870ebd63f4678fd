use Rattle.std.proofs.Common.{◌≡◌, drop}
use Rattle.fort_elab_tasks.specs.States.{bound_from}
use Rattle.fort_elab_tasks.proofs.state.bind_typed.Given as goal

abbrev pub invariant-loop-one : goal.invariant-loop-one
invariant-loop-one l =
    bound_from l.number (drop l.one-index l.list) l.names ≡ bound_from l.first l.list l.fn.names
