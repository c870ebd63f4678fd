use Rattle.std.proofs.Common.{◌≡◌, drop}
use Rattle.fort_machine.specs.Journals.{value_in}
use Rattle.fort_sound_tables.proofs.opening.value_at.Given as goal

abbrev pub invariant-loop-pair : goal.invariant-loop-pair
invariant-loop-pair l =
    value_in l.opening l.location ≡ value_in (drop l.pair-index l.opening) l.location
