use Rattle.fort_run.proofs.Audited.{record_says, formless}
use Rattle.fort_run.proofs.audit.audit_bytes.Goals as goal

pub returns-in-Ok : goal.returns-in-Ok
returns-in-Ok c =
    record_says c.args.program.now c.args.bytes.now c.in-Ok.kept c.audit_record.result
    (rw c.as_slice.ensures at c.in-Ok.ensures.ok) c.audit_record.ensures

pub returns-in-Err-Form : goal.returns-in-Err-Form
returns-in-Err-Form c =
    let fault = rw c.as_slice.ensures at c.in-Err-Form.ensures.fault in
    formless c.args.program.now c.args.bytes.now c.in-Err-Form.at c.record_refused.result
    (rw c.in-Err-Form.field-0-is at fault) c.record_refused.ensures
