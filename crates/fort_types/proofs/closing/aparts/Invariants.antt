use Rattle.fort_types.specs.Square.{unset}
use Rattle.fort_types.specs.Rounds.{Holds}
use Rattle.fort_types.proofs.closing.aparts.Given as goal

abbrev pub invariant-rounds : goal.invariant-rounds
invariant-rounds l = Holds l.types l.rows

abbrev pub decreases-rounds : goal.decreases-rounds
decreases-rounds l = unset l.rows
