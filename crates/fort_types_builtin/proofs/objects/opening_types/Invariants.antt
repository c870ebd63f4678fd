use Rattle.std.proofs.Common.{◌≡◌, map}
use Rattle.fort_types_builtin.specs.Objects.{typed_unit, counted}
use Rattle.fort_types_builtin.proofs.objects.opening_types.Given as goal

abbrev pub invariant-loop-number : goal.invariant-loop-number
invariant-loop-number l = l.types ≡ map typed_unit (counted l.first.0 l.number)
