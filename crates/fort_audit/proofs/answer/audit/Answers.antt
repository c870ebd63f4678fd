use Rattle.fort_audit.proofs.Said.{run_is_audited}
use Rattle.fort_audit.proofs.answer.audit.Goals as goal

pub returns-in-Run : goal.returns-in-Run
returns-in-Run c =
    run_is_audited c.args.program.now c.args.kept.now c.in_ok-at.field-0 c.in-Run.output
    c.in-Run._cost c.as_slice.result.now c.as_slice-in-Run.result.now
    c.compared.result c.in_ok-at.ensures c.in-Run.is c.as_slice.ensures c.as_slice-in-Run.ensures
    c.compared.ensures
