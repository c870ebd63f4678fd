use Rattle.fort_link_rules.specs.Places.{Gathers}
use Rattle.fort_link_rules.specs.Provided.{IsMissingAt}
use Rattle.fort_link_rules.proofs.Gathering.{Among}
use Rattle.fort_link_rules.proofs.provided.add_missing.Given as goal

abbrev pub invariant-loop-declared : goal.invariant-loop-declared
invariant-loop-declared l =
    Gathers (Among (IsMissingAt l.catalogue.signatures) l.declarations l.declared-index)
    l.initial.places l.places
