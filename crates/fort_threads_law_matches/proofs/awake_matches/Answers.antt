use Rattle.fort_threads_law_matches.proofs.Awake.{awake_matches}
use Rattle.fort_threads_law_matches.proofs.awake_matches.Goals as goal

pub returns : goal.returns
returns c = awake_matches
