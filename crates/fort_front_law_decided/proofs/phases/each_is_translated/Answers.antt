use Rattle.fort_front_law_decided.proofs.Programs.{translated_each}
use Rattle.fort_front_law_decided.proofs.phases.each_is_translated.Goals as goal

pub returns : goal.returns
returns c = translated_each c.built_ins_stand_first.ensures
