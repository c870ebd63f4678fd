use Rattle.fort_threads.proofs.Kept.{undone_add_none}
use Rattle.fort_threads.proofs.undone_add_none.Goals as goal

pub returns : goal.returns
returns c = undone_add_none
