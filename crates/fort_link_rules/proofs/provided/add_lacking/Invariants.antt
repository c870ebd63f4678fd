use Rattle.fort_link_rules.specs.Places.{Gathers}
use Rattle.fort_link_rules.specs.Provided.{IsMissingIn}
use Rattle.fort_link_rules.proofs.Gathering.{Among}
use Rattle.fort_link_rules.proofs.provided.add_lacking.Given as goal

abbrev pub invariant-loop-other : goal.invariant-loop-other
invariant-loop-other l =
    Gathers (Among (IsMissingIn l.catalogue.signatures l.unit) l.units l.other-index)
    l.initial.places l.places
