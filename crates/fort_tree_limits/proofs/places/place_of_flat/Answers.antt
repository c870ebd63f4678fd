use Rattle.fort_tree.proofs.MeasuresFlats.{flat_measures}
use Rattle.fort_tree_limits.proofs.places.place_of_flat.Goals as goal

pub returns : goal.returns
returns c = rw flat_measures (cc)
