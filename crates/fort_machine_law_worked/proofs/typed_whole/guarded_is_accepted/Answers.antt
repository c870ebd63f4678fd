use Rattle.fort_machine_law_worked.proofs.typed_whole.guarded_is_accepted.Goals as goal
use Rattle.fort_machine_law_worked.proofs.Guarded.{guarded_is_accepted, guarded_goes_on}

pub returns-clause-accepted : goal.returns-clause-accepted
returns-clause-accepted c = guarded_is_accepted

pub returns-clause-goes : goal.returns-clause-goes
returns-clause-goes c = guarded_goes_on
