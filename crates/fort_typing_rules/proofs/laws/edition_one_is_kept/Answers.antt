use Rattle.fort_typing_rules.proofs.EditionOne as edition_one
use Rattle.fort_typing_rules.proofs.laws.edition_one_is_kept.Goals as goal

pub returns : goal.returns
returns c = edition_one.edition_one_is_kept
