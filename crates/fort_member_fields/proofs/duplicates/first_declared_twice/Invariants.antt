use Rattle.fort_base.specs.Places.{IsFirst}
use Rattle.fort_hier.proofs.First.{Among}
use Rattle.fort_member_fields.proofs.RepeatLaws.{TwiceAt}
use Rattle.fort_member_fields.proofs.duplicates.first_declared_twice.Given as goal

abbrev pub invariant-loop-fields : goal.invariant-loop-fields
invariant-loop-fields l = IsFirst (Among (TwiceAt l.own) l.fields-index) l.best
