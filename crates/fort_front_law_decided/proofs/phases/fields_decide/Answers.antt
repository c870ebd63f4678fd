use Rattle.fort_front_law_decided.proofs.Fields.{members_or_report}
use Rattle.fort_front_law_decided.proofs.phases.fields_decide.Goals as goal

pub returns : goal.returns
returns c = members_or_report c.accepted_is_sound.ensures
