use Rattle.fort_sound_typed.proofs.OneSided.{relation_from_one}
use Rattle.fort_sound_typed.proofs.relation_from_one.Goals as goal

pub returns : goal.returns
returns c = relation_from_one
