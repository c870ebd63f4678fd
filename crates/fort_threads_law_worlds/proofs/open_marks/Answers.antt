use Rattle.fort_threads_law_worlds.proofs.Marks.{open_marks_read}
use Rattle.fort_threads_law_worlds.proofs.open_marks.Goals as goal

pub returns : goal.returns
returns c = open_marks_read
