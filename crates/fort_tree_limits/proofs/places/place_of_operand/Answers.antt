use Rattle.fort_tree.proofs.MeasuresFlats.{operand_measures}
use Rattle.fort_tree_limits.proofs.places.place_of_operand.Goals as goal

pub returns-in-Some : goal.returns-in-Some
returns-in-Some c = rw (operand_measures, c.in-Some.is) (c.place_of_prefix.ensures _)

pub returns-in-None : goal.returns-in-None
returns-in-None c = rw (operand_measures, c.in-None.is) (cc)
