use Rattle.fort_threads_law_thrown.proofs.Laws.{thrown_are_exceptions}
use Rattle.fort_threads_law_thrown.proofs.thrown_are_exceptions.Goals as goal

pub returns : goal.returns
returns c = thrown_are_exceptions
