use Rattle.fort_threads_law_tables.proofs.Same.{tabled_is_same}
use Rattle.fort_threads_law_tables.proofs.tabled_is_same.Goals as goal

pub returns : goal.returns
returns c = tabled_is_same
