use Rattle.std.proofs.Common.{◌+◌}
use Rattle.fort_base.specs.Places.{IsFirst}
use Rattle.fort_hier.proofs.First.{Among}
use Rattle.fort_member_fields.proofs.DuplicateLaws.{DuplicateAt}
use Rattle.fort_member_fields.proofs.duplicates.first_duplicate.Given as goal

abbrev pub invariant-loop-number : goal.invariant-loop-number
invariant-loop-number l = IsFirst (Among (DuplicateAt l.types l.own l.places) (1 + l.number)) l.best
