use Rattle.fort_types.specs.Types.{lower, flip}
use Rattle.fort_types.proofs.laws.apart_is_symmetric.Goals as goal
use Rattle.fort_types.proofs.ByLayers.{nothing_apart}

pub returns-clause-symmetric : goal.returns-clause-symmetric
returns-clause-symmetric c = λ h a b r. flip r

pub returns-clause-down : goal.returns-clause-down
returns-clause-down c = λ h a b x y r p q. lower p (flip (lower q (flip r)))

pub returns-clause-nothing : goal.returns-clause-nothing
returns-clause-nothing c = nothing_apart
