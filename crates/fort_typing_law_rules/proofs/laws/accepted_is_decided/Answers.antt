use Rattle.fort_typing_law_rules.proofs.Deciding as deciding
use Rattle.fort_typing_law_rules.proofs.laws.accepted_is_decided.Goals as goal

pub returns : goal.returns
returns c = deciding.is_decided
