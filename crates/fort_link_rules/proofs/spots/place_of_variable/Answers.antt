use Rattle.fort_tree.proofs.MeasuresBlocks.{variable_measures}
use Rattle.fort_link_rules.proofs.spots.place_of_variable.Goals as goal

pub returns-in-Some : goal.returns-in-Some
returns-in-Some c = rw (variable_measures, c.in-Some.is)

pub returns-in-None : goal.returns-in-None
returns-in-None c = rw (variable_measures, c.in-None.is)
