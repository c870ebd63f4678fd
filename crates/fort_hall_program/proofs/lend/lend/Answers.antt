use Rattle.std.proofs.Common.{refl}
use Rattle.fort_hall_program.proofs.Submitting.{kept_still}
use Rattle.fort_hall_program.proofs.lend.lend.Goals as goal

pub returns-then-not-lend-clause-keeps : goal.returns-then-not-lend-clause-keeps
returns-then-not-lend-clause-keeps c = kept_still _ _ _ _ c.requires.keeps refl refl

pub state_of-requires-clause-keeps : goal.state_of-requires-clause-keeps
state_of-requires-clause-keeps c = kept_still _ _ _ _ c.requires.keeps refl refl

pub returns-in-Ok-None-clause-keeps : goal.returns-in-Ok-None-clause-keeps
returns-in-Ok-None-clause-keeps c = kept_still _ _ _ _ c.state_of.ensures.keeps refl refl

pub returns-in-Err-clause-keeps : goal.returns-in-Err-clause-keeps
returns-in-Err-clause-keeps c = kept_still _ _ _ _ c.state_of.ensures.keeps refl refl
