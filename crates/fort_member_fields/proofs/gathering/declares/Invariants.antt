use Rattle.fort_types_sets.specs.declared.field.Field.{Field}
use Rattle.std.proofs.Common.{◌≡◌}
use Rattle.fort_member_fields.proofs.Searches.{NoneTo}
use Rattle.fort_member_fields.proofs.gathering.declares.Given as goal

abbrev pub invariant-loop-field : goal.invariant-loop-field
invariant-loop-field l = NoneTo (λ (f : Field). f.name ≡ l.name) l.own l.field-index
