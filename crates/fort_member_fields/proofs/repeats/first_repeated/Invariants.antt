use Rattle.std.proofs.Common.{take}
use Rattle.fort_base.specs.Places.{IsFirst}
use Rattle.fort_hier.proofs.First.{Among}
use Rattle.fort_member_fields.specs.Walks.{HoldsNames}
use Rattle.fort_member_fields.proofs.RepeatLaws.{RepeatedAt}
use Rattle.fort_member_fields.proofs.repeats.first_repeated.Given as goal

abbrev pub invariant-loop-field : goal.invariant-loop-field
invariant-loop-field l = HoldsNames (take l.field-index l.fields) l.seen
    × IsFirst (Among (RepeatedAt l.fields) l.field-index) l.best
