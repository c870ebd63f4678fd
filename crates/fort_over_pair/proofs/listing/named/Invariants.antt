use Rattle.std.proofs.Common.{◌≡◌, ◌++◌, map, drop}
use Rattle.fort_base.specs.declared.ty.Ty.TheVariants.{Named}
use Rattle.fort_over_pair.proofs.listing.named.Given as goal

abbrev pub invariant-loop-id : goal.invariant-loop-id
invariant-loop-id l = l.list ++ map Named (drop l.id-index l.ids) ≡ map Named l.ids
