use Rattle.std.proofs.Common.{◌≡◌, map}
use Rattle.fort_types_builtin.specs.Objects.{holding_unit, counted}
use Rattle.fort_types_builtin.proofs.objects.opening.Given as goal

abbrev pub invariant-loop-number : goal.invariant-loop-number
invariant-loop-number l = l.opening ≡ map holding_unit (counted l.first.0 l.number)
