use Rattle.std.proofs.lemmas.List.{length-map}
use Rattle.fort_tree.proofs.MeasuresBlocks.{catch_measures}
use Rattle.fort_tree_limits.proofs.blocks.clause_count.Goals as goal

pub returns-in-Some : goal.returns-in-Some
returns-in-Some c = rw (c.in-Some.is, catch_measures, length-map) (cc)
