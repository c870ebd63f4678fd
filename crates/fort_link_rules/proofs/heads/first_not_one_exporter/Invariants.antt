use Rattle.std.proofs.Common.{[]}
use Rattle.fort_link_rules.specs.Heads.{NotExportedOnce}
use Rattle.fort_link_rules.specs.Places.{Gathers}
use Rattle.fort_link_rules.proofs.Gathering.{Among}
use Rattle.fort_link_rules.proofs.heads.first_not_one_exporter.Given as goal

abbrev pub invariant-loop-unit : goal.invariant-loop-unit
invariant-loop-unit l =
    Gathers (Among (NotExportedOnce l.units) l.units l.unit-index) [] l.places
