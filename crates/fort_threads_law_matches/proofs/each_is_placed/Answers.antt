use Rattle.fort_threads_law_matches.proofs.Placing.{each_is_placed}
use Rattle.fort_threads_law_matches.proofs.each_is_placed.Goals as goal

pub returns : goal.returns
returns c = each_is_placed
