use Rattle.fort_sound.proofs.Accepted.{accepted_component}
use Rattle.fort_sound.proofs.laws.accepted_component_is_sound.Goals as goal

pub returns : goal.returns
returns c =
    accepted_component c.accepted_tree_is_sound.ensures c.rewritten_obeys.ensures
    c.rewritten_stands_apart.ensures c.rewritten_numbers_fit.ensures
