use Rattle.fort_sound_never.proofs.Texts.{has_text}
use Rattle.fort_sound_never.proofs.laws.accepted_has_text.Goals as goal

pub returns : goal.returns
returns c = has_text c.accepted_is_sound.ensures c.run_is_typed.ensures c.thrown_is_object.ensures
