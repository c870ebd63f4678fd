use Rattle.std.proofs.Common.{◌≡◌, ◌+◌, drop}
use Rattle.fort_typing_known.specs.Names.{number_in}
use Rattle.fort_typing_known.proofs.names.number_in.Given as goal

abbrev pub invariant-loop-field : goal.invariant-loop-field
invariant-loop-field l = (l.number ≡ l.field-index)
    × (number_in l.fields l.name ≡ l.number + number_in (drop l.field-index l.fields) l.name)
