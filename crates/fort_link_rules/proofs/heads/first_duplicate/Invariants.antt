use Rattle.std.proofs.Common.{[]}
use Rattle.fort_link_rules.specs.Heads.{DuplicateAt}
use Rattle.fort_link_rules.specs.Places.{Gathers}
use Rattle.fort_link_rules.proofs.Gathering.{Below}
use Rattle.fort_link_rules.proofs.heads.first_duplicate.Given as goal

abbrev pub invariant-loop-k : goal.invariant-loop-k
invariant-loop-k l = Gathers (Below (DuplicateAt l.names l.units) l.k) [] l.places
