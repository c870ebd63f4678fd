use Rattle.fort_member_fields.specs.Gathering.{HasTo}
use Rattle.fort_member_fields.proofs.inherited.gather_all.Given as goal

abbrev pub invariant-loop-height : goal.invariant-loop-height
invariant-loop-height l = HasTo l.types l.own l.heights l.height 0 l.all
