use Rattle.fort_sound.proofs.Accepted.{in_order}
use Rattle.fort_sound.proofs.laws.file_is_in_order.Goals as goal

pub returns : goal.returns
returns c =
    in_order c.tokens_stand_apart.ensures c.file_stands_on_lines.ensures c.file_names_are_in.ensures
