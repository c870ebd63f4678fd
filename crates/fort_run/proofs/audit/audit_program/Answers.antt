use Rattle.std.proofs.Common.{refl}
use Rattle.fort_run.specs.Reply.{RecordUnread, RecordTooLarge}
use Rattle.fort_run.proofs.Audited.{record_means}
use Rattle.fort_run.proofs.audit.audit_program.Goals as goal

pub returns-in-Ok-clause-means : goal.returns-in-Ok-clause-means
returns-in-Ok-clause-means g c =
    record_means c.args.program.now _ _ _ c.in-Ok.bytes c.audit_bytes.result c.in-Ok.ensures.file
    c.in-Ok.ensures.within c.in-Ok.ensures.calm c.audit_bytes.ensures

pub returns-in-Err-Failed-clause-means : goal.returns-in-Err-Failed-clause-means
returns-in-Err-Failed-clause-means g c =
    RecordUnread (rw c.in-Err-Failed.field-0-is at c.in-Err-Failed.ensures.stops) refl

pub returns-in-Err-TooLarge-clause-means : goal.returns-in-Err-TooLarge-clause-means
returns-in-Err-TooLarge-clause-means g c =
    let stops = rw c.in-Err-TooLarge.field-0-is at c.in-Err-TooLarge.ensures.stops in
    RecordTooLarge stops.1.0 stops.1.1 stops.1.2 stops.0 refl
