use Rattle.fort_member_fields.proofs.LackLaws.{LacksNoneTo}
use Rattle.fort_member_fields.proofs.lacking.lacks_field.Given as goal

abbrev pub invariant-loop-t : goal.invariant-loop-t
invariant-loop-t l = LacksNoneTo l.types l.table l.must l.own l.a l.t
