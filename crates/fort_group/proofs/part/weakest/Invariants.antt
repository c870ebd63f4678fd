use Rattle.fort_group.specs.Joining.{IsWeakest}
use Rattle.fort_group.proofs.part.weakest.Given as goal

abbrev pub invariant-loop-at : goal.invariant-loop-at
invariant-loop-at l = IsWeakest l.joints l.from l.at l.best
