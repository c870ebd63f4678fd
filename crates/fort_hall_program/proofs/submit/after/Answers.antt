use Rattle.std.proofs.Common.{refl}
use Rattle.fort_hall_program.proofs.Submitting.{kept_still}
use Rattle.fort_hall_program.proofs.submit.after.Goals as goal

pub lend_on-next-requires-clause-keeps : goal.lend_on-next-requires-clause-keeps
lend_on-next-requires-clause-keeps c = kept_still _ _ _ _ c.requires.keeps refl refl
