use Rattle.fort_walk_law_course.proofs.Keeps.{moves_keep}
use Rattle.fort_walk_law_course.proofs.laws.moves_keep.Goals as goal

pub returns : goal.returns
returns c = moves_keep
