use Rattle.fort_run.proofs.Told.{run_has_text, run_recorded}
use Rattle.fort_run.proofs.record.recorded.Goals as goal

pub returns : goal.returns
returns g c =
    run_recorded c.args.task.now.program c.args.task.now.fuel c.in_ok-ran.field-0.ran c.in_ok-end.end
    c.in_ok-text.text c.in_ok-ran.ensures.run c.requires.may.one c.in_ok-end.ensures
    (c.in_ok-text.ensures.is_record (run_has_text c.args.task.now.program c.args.task.now.fuel
    c.in_ok-ran.field-0.ran c.in_ok-ran.ensures.run c.requires.texts))
