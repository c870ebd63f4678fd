use Rattle.fort_sound.proofs.Accepted.{accepted}
use Rattle.fort_sound.proofs.laws.accepted_is_sound.Goals as goal

pub returns : goal.returns
returns c =
    accepted c.accepted_component_is_sound.ensures c.file_is_in_order.ensures
    c.file_numbers_fit.ensures
