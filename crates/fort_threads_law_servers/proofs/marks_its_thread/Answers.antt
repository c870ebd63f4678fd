use Rattle.fort_threads_law_servers.proofs.Life.{marks_its_thread}
use Rattle.fort_threads_law_servers.proofs.marks_its_thread.Goals as goal

pub returns : goal.returns
returns c = marks_its_thread
