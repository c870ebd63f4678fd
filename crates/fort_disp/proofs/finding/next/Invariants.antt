use Rattle.fort_disp.specs.Fits.{fits, HoldsNowhere}
use Rattle.fort_disp.proofs.finding.next.Given as goal

abbrev pub invariant-loop-at : goal.invariant-loop-at
invariant-loop-at l = HoldsNowhere (fits l.program l.values l.count) l.row l.from l.at
