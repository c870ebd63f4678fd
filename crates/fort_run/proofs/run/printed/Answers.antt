use Rattle.fort_run.proofs.Told.{run_told}
use Rattle.fort_run.proofs.run.printed.Goals as goal

pub returns-clause-tells : goal.returns-clause-tells
returns-clause-tells g c =
    run_told c.args.task.now.program c.args.task.now.fuel c.in_ok-ran.field-0.ran c.in_ok-end.end
    c.in_ok-ran.ensures.run c.requires.may.one c.in_ok-end.ensures
