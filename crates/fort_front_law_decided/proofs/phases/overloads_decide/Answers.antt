use Rattle.fort_front_law_decided.proofs.Overloads.{kept_or_report}
use Rattle.fort_front_law_decided.proofs.phases.overloads_decide.Goals as goal

pub returns : goal.returns
returns c = kept_or_report c.accepted_is_sound.ensures c.relation_is_below.ensures c.sets_are_well_made.ensures
