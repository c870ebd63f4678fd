use Rattle.fort_link_units.specs.declared.unit.Import.{Import}
use Rattle.fort_link_rules.specs.Heads.{IsUnknownImport}
use Rattle.fort_link_rules.specs.Places.{Gathers}
use Rattle.fort_link_rules.proofs.Gathering.{Among}
use Rattle.fort_link_rules.proofs.heads.add_unknown_imports.Given as goal

abbrev pub invariant-loop-import : goal.invariant-loop-import
invariant-loop-import l =
    Gathers (Among (λ (i : Import). IsUnknownImport l.units i.name) l.imports l.import-index)
    l.initial.places l.places
