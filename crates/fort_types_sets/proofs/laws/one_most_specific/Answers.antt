use Rattle.fort_types_sets.proofs.laws.one_most_specific.Goals as goal
use Rattle.fort_types_sets.proofs.Chosen.{exactly_one, never_abstract}

pub returns-clause-one : goal.returns-clause-one
returns-clause-one c =
    λ h table sound rows s made keeps types solid i d a f. exactly_one h table sound rows s made
    keeps types solid i d a f

pub returns-clause-concrete : goal.returns-clause-concrete
returns-clause-concrete c =
    λ h table sound rows s made keeps types solid values k best. never_abstract h table sound rows s
    made keeps types solid values k best
