use Rattle.fort_audit_record.proofs.Whole.{one_record}
use Rattle.fort_audit_record.proofs.laws.one_record.Goals as goal

pub returns : goal.returns
returns c = one_record
