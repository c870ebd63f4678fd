use Rattle.fort_tree_limits.proofs.CensusLaws.{seen_within, seen_late, seen_first}
use Rattle.fort_tree_limits.proofs.census.Count.see.Goals as goal

pub returns-then-self-gt0 : goal.returns-then-self-gt0
returns-then-self-gt0 c = seen_within c.args.self.now c.args.at c.if-self-gt0.true

pub returns-in-Some : goal.returns-in-Some
returns-in-Some c = seen_late c.args.self.now c.args.at _ c.if-self-gt0.false c.in-Some.is

pub returns-in-None : goal.returns-in-None
returns-in-None c = seen_first c.args.self.now c.args.at c.if-self-gt0.false c.in-None.is
