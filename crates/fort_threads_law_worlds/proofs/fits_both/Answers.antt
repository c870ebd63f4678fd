use Rattle.fort_threads_law_worlds.proofs.Fitting.{fits_both}
use Rattle.fort_threads_law_worlds.proofs.fits_both.Goals as goal

pub returns : goal.returns
returns c = fits_both
