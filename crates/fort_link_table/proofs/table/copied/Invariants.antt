use Rattle.std.proofs.Common.{◌≡◌, take}
use Rattle.fort_link_table.proofs.table.copied.Given as goal

abbrev pub invariant-loop-spelling : goal.invariant-loop-spelling
invariant-loop-spelling l = l.copy ≡ take l.spelling-index l.spellings
