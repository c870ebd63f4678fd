use Rattle.fort_tree.proofs.MeasuresFlats.{run_measures}
use Rattle.fort_tree_limits.proofs.places.place_of_run.Goals as goal

pub returns : goal.returns
returns c = rw run_measures (cc)
