use Rattle.fort_run.proofs.run.run_task.Goals as goal

pub recorded-requires-clause-texts : goal.recorded-requires-clause-texts
recorded-requires-clause-texts g c κs within = c.requires.ready.texts c.in-Record.is
