use Rattle.fort_threads.proofs.Worked.{spawns_and_waits}
use Rattle.fort_threads.proofs.spawns_and_waits.Goals as goal

pub returns : goal.returns
returns c = spawns_and_waits
