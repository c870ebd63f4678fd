use Rattle.fort_member_fields.specs.Gathering.{HasTo}
use Rattle.fort_member_fields.proofs.inherited.gather_at.Given as goal

abbrev pub invariant-loop-a : goal.invariant-loop-a
invariant-loop-a l = HasTo l.types l.own l.heights l.height l.a l.all
