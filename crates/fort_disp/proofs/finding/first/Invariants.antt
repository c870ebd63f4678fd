use Rattle.std.proofs.Common.{◌≡◌, ◌+◌}
use Rattle.fort_disp.specs.Fits.{fits, HoldsNowhere, HoldsThere}
use Rattle.fort_disp.proofs.finding.first.Given as goal

abbrev pub invariant-loop-place : goal.invariant-loop-place
invariant-loop-place g l =
    HoldsNowhere (fits l.program l.values l.place) l.row 0 l.at
    × HoldsThere (fits l.program l.values l.place) l.row l.at
    × (l.steps ≡ l.fn.steps + 1 + l.place)
