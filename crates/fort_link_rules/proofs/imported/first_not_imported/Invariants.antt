use Rattle.std.proofs.Common.{[]}
use Rattle.fort_link_rules.specs.Imported.{UsesUnknown}
use Rattle.fort_link_rules.specs.Places.{Gathers}
use Rattle.fort_link_rules.proofs.Gathering.{Among}
use Rattle.fort_link_rules.proofs.imported.first_not_imported.Given as goal

abbrev pub invariant-loop-unit : goal.invariant-loop-unit
invariant-loop-unit l =
    Gathers (Among (UsesUnknown l.units) l.units l.unit-index) [] l.places
