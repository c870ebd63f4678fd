use Rattle.fort_threads_law_matches.proofs.Sleeping.{sleepers_match}
use Rattle.fort_threads_law_matches.proofs.sleepers_match.Goals as goal

pub returns : goal.returns
returns c = sleepers_match
