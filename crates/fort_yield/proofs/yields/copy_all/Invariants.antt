use Rattle.std.proofs.Common.{◌≡◌, take}
use Rattle.fort_yield.proofs.yields.copy_all.Given as goal

abbrev pub invariant-loop-bytes : goal.invariant-loop-bytes
invariant-loop-bytes l = l.copies ≡ take l.bytes-index l.all
