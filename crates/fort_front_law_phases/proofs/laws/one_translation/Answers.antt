use Rattle.fort_front_law_phases.proofs.Programs.{program_once}
use Rattle.fort_front_law_phases.proofs.laws.one_translation.Goals as goal

pub returns : goal.returns
returns c = program_once
