use Rattle.fort_hier.proofs.NumberLaws.{known_told, unknown_told}
use Rattle.fort_hier.proofs.unknown.is_known.Goals as goal

pub returns-in-Some : goal.returns-in-Some
returns-in-Some c = λ list h. known_told _ _ _ _ c.spelled.ensures (c.in-Some.ensures list h)

pub returns-in-None : goal.returns-in-None
returns-in-None c = λ list h. unknown_told _ _ _ c.spelled.ensures (c.in-None.ensures list h)
