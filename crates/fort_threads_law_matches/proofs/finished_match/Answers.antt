use Rattle.fort_threads_law_matches.proofs.Open.{finished_match}
use Rattle.fort_threads_law_matches.proofs.finished_match.Goals as goal

pub returns : goal.returns
returns c = finished_match
