use Rattle.std.proofs.Common.{rules}
use Rattle.fort_sound_tables.proofs.CallsRun.{sole_as}
use Rattle.fort_sound_tables.proofs.check.main_is_sole.Goals as goal

pub returns : goal.returns
returns c ok = sole_as _ _ _ _ _ _ _ (search rules) (search rules) (c.is_sole.ensures ok)
