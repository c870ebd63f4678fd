use Rattle.fort_machine_law_worked.proofs.PassingRun.{throw_passes}
use Rattle.fort_machine_law_worked.proofs.passing.throw_passes.Goals as goal

pub returns : goal.returns
returns c = throw_passes
