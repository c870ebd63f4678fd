use Rattle.std.proofs.Common.{◌≡◌, ◌++◌, map, drop}
use Rattle.fort_base.specs.declared.ty.Ty.TheVariants.{Tuple}
use Rattle.fort_over_pair.proofs.listing.tuples.Given as goal

abbrev pub invariant-loop-row : goal.invariant-loop-row
invariant-loop-row l = l.list ++ map Tuple (drop l.row-index l.rows) ≡ map Tuple l.rows
