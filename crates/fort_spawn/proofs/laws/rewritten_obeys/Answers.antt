use Rattle.fort_spawn.proofs.Obeying.{keeps_on, obeying}
use Rattle.fort_spawn.proofs.laws.rewritten_obeys.Goals as goal

pub returns : goal.returns
returns c = obeying (keeps_on c.tree_goes_over.ensures)
