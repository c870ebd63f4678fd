use Rattle.std.proofs.Common.{◌≡◌, take}
use Rattle.fort_member_fields.specs.Walks.{KnowsNames}
use Rattle.fort_member_fields.proofs.gathering.Gathering.new.Given as goal

abbrev pub invariant-loop-field : goal.invariant-loop-field
invariant-loop-field l = KnowsNames l.gathering × (l.gathering.fields ≡ take l.field-index l.own)
