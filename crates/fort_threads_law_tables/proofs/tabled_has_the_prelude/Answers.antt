use Rattle.fort_threads_law_tables.proofs.Tables.{tabled_has_the_prelude}
use Rattle.fort_threads_law_tables.proofs.tabled_has_the_prelude.Goals as goal

pub returns : goal.returns
returns c = tabled_has_the_prelude
