use Rattle.fort_member_fields.specs.Walks.{IsUnlike}
use Rattle.fort_member_fields.proofs.Searches.{NoneTo}
use Rattle.fort_member_fields.proofs.duplicates.any_unlike.Given as goal

abbrev pub invariant-loop-other : goal.invariant-loop-other
invariant-loop-other l = NoneTo (IsUnlike l.field) l.others l.other-index
