use Rattle.std.proofs.Common.{◌≡◌, take}
use Rattle.fort_over_pair.proofs.listing.copied.Given as goal

abbrev pub invariant-loop-ty : goal.invariant-loop-ty
invariant-loop-ty l = l.list ≡ take l.ty-index l.ty-items
