-- What the judge has of a clause.
use Rattle.fort_typing_meaning.proofs.Levels.{clause-is}

pub ruleset clauses = (clause-is)
