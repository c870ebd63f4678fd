use Rattle.fort_spawn.proofs.Fit.{fit}
use Rattle.fort_spawn.proofs.laws.rewritten_numbers_fit.Goals as goal

pub returns : goal.returns
returns c = fit
