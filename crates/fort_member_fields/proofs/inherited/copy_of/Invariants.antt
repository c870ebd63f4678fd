use Rattle.std.proofs.Common.{◌≡◌, take}
use Rattle.fort_member_fields.proofs.inherited.copy_of.Given as goal

abbrev pub invariant-loop-field : goal.invariant-loop-field
invariant-loop-field l = l.made ≡ take l.field-index l.fields
