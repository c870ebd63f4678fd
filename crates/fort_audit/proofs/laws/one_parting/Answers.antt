use Rattle.fort_audit.proofs.Said.{parts_once}
use Rattle.fort_audit.proofs.laws.one_parting.Goals as goal

pub returns : goal.returns
returns c = parts_once
