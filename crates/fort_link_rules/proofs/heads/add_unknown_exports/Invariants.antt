use Rattle.fort_tree.specs.declared.declarations.Export.{Export}
use Rattle.fort_link_rules.specs.Heads.{IsUnknownExport}
use Rattle.fort_link_rules.specs.Places.{Gathers}
use Rattle.fort_link_rules.proofs.Gathering.{Among}
use Rattle.fort_link_rules.proofs.heads.add_unknown_exports.Given as goal

abbrev pub invariant-loop-export : goal.invariant-loop-export
invariant-loop-export l =
    Gathers (Among (λ (e : Export). IsUnknownExport l.names l.units e.name) l.exports
    l.export-index) l.initial.places l.places
