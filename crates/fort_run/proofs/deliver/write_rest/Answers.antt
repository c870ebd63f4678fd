use Rattle.fort_run.proofs.Written.{took_whole}
use Rattle.fort_run.proofs.deliver.write_rest.Goals as goal

pub returns-clause-ok : goal.returns-clause-ok
returns-clause-ok g c was faults has =
    took_whole _ _ c.write_on.result (c.write_on.ensures.written was faults has)
    c.if-write_on.false (c.write_on.ensures.whole c.if-write_on.false)
