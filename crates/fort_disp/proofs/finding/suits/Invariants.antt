use Rattle.std.proofs.Common.{◌≡◌, true}
use Rattle.fort_disp.specs.Fits.{fits_first}
use Rattle.fort_disp.proofs.finding.suits.Given as goal

abbrev pub invariant-loop-place : goal.invariant-loop-place
invariant-loop-place l = fits_first l.program l.values l.decl.parameters l.place ≡ true
