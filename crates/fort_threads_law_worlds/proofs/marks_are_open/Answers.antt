use Rattle.fort_threads_law_worlds.proofs.Marks.{marks_are_open}
use Rattle.fort_threads_law_worlds.proofs.marks_are_open.Goals as goal

pub returns : goal.returns
returns c = marks_are_open
