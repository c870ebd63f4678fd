use Rattle.fort_member_fields.specs.Walks.{HasOther}
use Rattle.fort_member_fields.proofs.Searches.{NoneTo}
use Rattle.fort_member_fields.proofs.duplicates.differ.Given as goal

abbrev pub invariant-loop-field : goal.invariant-loop-field
invariant-loop-field l = NoneTo (HasOther l.own l.others) l.fields l.field-index
