use Rattle.fort_threads_law_matches.proofs.Acts.{ready_match}
use Rattle.fort_threads_law_matches.proofs.ready_match.Goals as goal

pub returns : goal.returns
returns c = ready_match
