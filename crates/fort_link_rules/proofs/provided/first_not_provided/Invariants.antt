use Rattle.std.proofs.Common.{[]}
use Rattle.fort_link_rules.specs.Places.{Gathers}
use Rattle.fort_link_rules.specs.Provided.{LacksPromised}
use Rattle.fort_link_rules.proofs.Gathering.{Among}
use Rattle.fort_link_rules.proofs.provided.first_not_provided.Given as goal

abbrev pub invariant-loop-unit : goal.invariant-loop-unit
invariant-loop-unit l =
    Gathers (Among (LacksPromised l.units) l.units l.unit-index) [] l.places
