use Rattle.fort_sound_defined.proofs.sets_keep_rules.Goals as goal
use Rattle.fort_sound_defined.proofs.Sets.{sets_keep_rules}

pub returns : goal.returns
returns c = sets_keep_rules
