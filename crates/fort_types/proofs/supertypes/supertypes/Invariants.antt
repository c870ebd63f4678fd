use Rattle.std.proofs.Common.{◌≡◌, length}
use Rattle.fort_types.specs.Supertypes.{AreRows}
use Rattle.fort_types.proofs.supertypes.supertypes.Given as goal

abbrev pub invariant-loop-a : goal.invariant-loop-a
invariant-loop-a l = record { long : length l.rows ≡ l.a; rows : AreRows l.types l.rows }
