use Rattle.std.proofs.Common.{◌≡◌, drop, map}
use Rattle.fort_elab_meaning.specs.Items.{parameter}
use Rattle.fort_elab_tasks.specs.States.{bound_from}
use Rattle.fort_elab_tasks.proofs.state.bind_parameters.Given as goal

abbrev pub invariant-loop-one : goal.invariant-loop-one
invariant-loop-one l =
    bound_from l.number (map parameter (drop l.one-index l.list)) l.names
    ≡ bound_from l.first (map parameter l.list) l.fn.names
