use Rattle.std.proofs.Common.{◌≤◌, ◌+◌, ◌-◌, length}
use Rattle.fort_types.specs.Square.{falses}
use Rattle.fort_types.specs.Supertypes.{Found}
use Rattle.fort_types.proofs.supertypes.row_of.Given as goal

abbrev pub invariant-upwards : goal.invariant-upwards
invariant-upwards l =
    record { found : Found l.types l.a l.row l.found l.done; within : l.done ≤ length l.found }

abbrev pub decreases-upwards : goal.decreases-upwards
decreases-upwards l = falses l.row + length l.found - l.done
