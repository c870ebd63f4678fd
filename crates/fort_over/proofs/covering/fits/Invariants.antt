use Rattle.std.specs.Prelude.{slice_set}
use Rattle.fort_over.proofs.CoverLaws.{EachBelow}
use Rattle.fort_over.proofs.covering.fits.Given as goal

abbrev pub invariant-loop-k : goal.invariant-loop-k
invariant-loop-k l = EachBelow l.table (slice_set l.given l.at l.object) l.taken l.k
