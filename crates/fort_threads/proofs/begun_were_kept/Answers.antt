use Rattle.fort_threads.proofs.Kept.{begun_were_kept}
use Rattle.fort_threads.proofs.begun_were_kept.Goals as goal

pub returns : goal.returns
returns c = begun_were_kept
