use Rattle.fort_member.proofs.FirstLaws.{built_ins_first}
use Rattle.fort_member.proofs.laws.built_ins_stand_first.Goals as goal

pub returns : goal.returns
returns c = built_ins_first
