use Rattle.fort_types.proofs.laws.relation_is_below.Goals as goal
use Rattle.fort_types.proofs.Asked.{relation_below}

pub returns : goal.returns
returns c = relation_below
