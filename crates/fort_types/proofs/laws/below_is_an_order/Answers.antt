use Rattle.fort_types.proofs.laws.below_is_an_order.Goals as goal
use Rattle.fort_types.proofs.Orders.{itself, through}
use Rattle.fort_types.proofs.Antisymmetry.{same}

pub returns-clause-reflexive : goal.returns-clause-reflexive
returns-clause-reflexive c = itself

pub returns-clause-transitive : goal.returns-clause-transitive
returns-clause-transitive c = through

pub returns-clause-antisymmetric : goal.returns-clause-antisymmetric
returns-clause-antisymmetric c = same
