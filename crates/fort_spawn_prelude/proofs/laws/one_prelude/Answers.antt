use Rattle.fort_spawn_prelude.proofs.One.{is_one}
use Rattle.fort_spawn_prelude.proofs.laws.one_prelude.Goals as goal

pub returns : goal.returns
returns c = is_one
