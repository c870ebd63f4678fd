use Rattle.fort_link_rules.specs.Marks.{IsStranger}
use Rattle.fort_link_rules.specs.Places.{Gathers}
use Rattle.fort_link_rules.proofs.Gathering.{Among}
use Rattle.fort_link_rules.proofs.imported.add_strangers.Given as goal

abbrev pub invariant-loop-name : goal.invariant-loop-name
invariant-loop-name l =
    Gathers (Among (IsStranger l.known l.declared) l.names l.name-index) l.initial.places l.places
