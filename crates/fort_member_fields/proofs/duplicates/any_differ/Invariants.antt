use Rattle.fort_member_fields.specs.Walks.{DiffersFrom}
use Rattle.fort_member_fields.proofs.Searches.{NoneTo}
use Rattle.fort_member_fields.proofs.duplicates.any_differ.Given as goal

abbrev pub invariant-loop-b : goal.invariant-loop-b
invariant-loop-b l = NoneTo (DiffersFrom l.own l.all l.extends) l.extends l.b-index
