use Rattle.fort_tree_law_moved.proofs.DeclarationsSaid.{yield_moves, obeys_moves}
use Rattle.fort_tree_law_moved.proofs.DeclarationsMeasured.{crowded_moves}
use Rattle.fort_tree_law_moved.proofs.laws.moving_places_keeps_the_rest.Goals as goal

pub returns : goal.returns
returns c = record { tokens = yield_moves; gaps = obeys_moves; limits = crowded_moves }
