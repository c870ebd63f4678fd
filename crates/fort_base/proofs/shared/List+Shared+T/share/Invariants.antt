use Rattle.std.proofs.Common.{◌≡◌, take}
use Rattle.fort_base.proofs.shared.List+Shared+T.share.Given as goal

abbrev pub invariant-loop-item : goal.invariant-loop-item
invariant-loop-item g l = l.all ≡ take l.item-index l.item-items
