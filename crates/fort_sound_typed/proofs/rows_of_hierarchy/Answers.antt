use Rattle.fort_sound_typed.proofs.Rows.{rows_of_hierarchy}
use Rattle.fort_sound_typed.proofs.rows_of_hierarchy.Goals as goal

pub returns : goal.returns
returns c = rows_of_hierarchy
