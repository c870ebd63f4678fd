use Rattle.std.proofs.Common.{◌≡◌, drop}
use Rattle.fort_typing_known.specs.Names.{field_in}
use Rattle.fort_typing_known.proofs.names.field_in.Given as goal

abbrev pub invariant-loop-field : goal.invariant-loop-field
invariant-loop-field l = field_in l.fields l.name ≡ field_in (drop l.field-index l.fields) l.name
