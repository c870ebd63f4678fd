use Rattle.std.proofs.Common.{◌≡◌, ◌+◌, Some}
use Rattle.std.specs.List.{slice_get}
use Rattle.fort_base.specs.Places.{IsFirst}
use Rattle.fort_hier.proofs.First.{Among}
use Rattle.fort_member_fields.specs.Rules.{LacksField}
use Rattle.fort_member_fields.proofs.lacking.first_lacking.Given as goal

abbrev pub invariant-loop-number : goal.invariant-loop-number
invariant-loop-number l =
    IsFirst (Among (λ k place. (slice_get l.places k ≡ Some place)
    × LacksField l.types l.own (l.built_in + k)) l.number) l.best
