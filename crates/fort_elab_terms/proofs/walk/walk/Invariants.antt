use Rattle.std.proofs.Common.{◌≡◌}
use Rattle.fort_elab_meaning.specs.Read.{given_of}
use Rattle.fort_elab_tasks.specs.Forms.{see}
use Rattle.fort_elab_tasks.specs.Tasks.{run}
use Rattle.fort_elab_terms.proofs.walk.walk.Given as goal

abbrev pub invariant-tasks : goal.invariant-tasks
invariant-tasks l =
    run (given_of l.known) l.tasks l.state ≡ see (given_of l.known) l.form l.fn.state
