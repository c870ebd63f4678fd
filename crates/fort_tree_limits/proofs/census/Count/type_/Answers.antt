use Rattle.fort_tree_limits.proofs.CensusLaws.{counted_none}
use Rattle.fort_tree_limits.proofs.census.Count.type_.Goals as goal

pub returns-in-Variable : goal.returns-in-Variable
returns-in-Variable c = rw (c.in-Variable.is, counted_none)

pub returns-in-Function : goal.returns-in-Function
returns-in-Function c = rw (c.in-Function.is, counted_none)
