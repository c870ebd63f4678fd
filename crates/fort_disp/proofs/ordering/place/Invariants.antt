use Rattle.fort_disp.specs.Fits.{goes_before, HoldsNowhere}
use Rattle.fort_disp.proofs.ordering.place.Given as goal

abbrev pub invariant-loop-at : goal.invariant-loop-at
invariant-loop-at l = HoldsNowhere (goes_before l.program l.number) l.row 0 l.at
