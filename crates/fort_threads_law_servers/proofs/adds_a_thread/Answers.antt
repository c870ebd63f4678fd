use Rattle.fort_threads_law_servers.proofs.Adding.{adds_a_thread}
use Rattle.fort_threads_law_servers.proofs.adds_a_thread.Goals as goal

pub returns : goal.returns
returns c = adds_a_thread
