use Rattle.fort_spawn_prelude.proofs.Read.{is_read}
use Rattle.fort_spawn_prelude.proofs.laws.prelude_is_read.Goals as goal

pub returns : goal.returns
returns c = is_read
