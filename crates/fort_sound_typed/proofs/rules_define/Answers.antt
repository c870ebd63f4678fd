use Rattle.fort_sound_typed.proofs.Overloads.{rules_define}
use Rattle.fort_sound_typed.proofs.rules_define.Goals as goal

pub returns : goal.returns
returns c = rules_define
