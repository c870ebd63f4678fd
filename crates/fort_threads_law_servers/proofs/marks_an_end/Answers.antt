use Rattle.fort_threads_law_servers.proofs.Life.{marks_an_end}
use Rattle.fort_threads_law_servers.proofs.marks_an_end.Goals as goal

pub returns : goal.returns
returns c = marks_an_end
