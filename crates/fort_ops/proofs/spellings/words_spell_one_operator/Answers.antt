use Rattle.fort_ops.proofs.spellings.words_spell_one_operator.Goals as goal
use Rattle.fort_ops.proofs.Words.{spells_once}

pub returns : goal.returns
returns c = spells_once
