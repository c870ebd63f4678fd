use Rattle.fort_link_units.specs.declared.unit.Import.{Import}
use Rattle.fort_link_rules.specs.Heads.{IsUnknownImport}
use Rattle.fort_link_rules.proofs.Gathering.{gathers_none, gathers_more_at, gathers_all, gathers_where_not}
use Rattle.fort_link_rules.proofs.heads.add_unknown_imports.Goals as goal

pub loop-import-init : goal.loop-import-init
loop-import-init c =
    gathers_none (λ (x : Import). IsUnknownImport c.args.units.now x.name) c.args.imports.now _

pub loop-import-preserved : goal.loop-import-preserved
loop-import-preserved c =
    gathers_more_at (λ (x : Import). IsUnknownImport c.args.units.now x.name) c.args.imports.now
    c.loop-import.import-index _ _ c.loop-import.places c.add_where.new.places
    c.loop-import-test.true c.loop-import.invariant
    (gathers_where_not c.has_api-known.result _ _ c.loop-import.places c.add_where.new.places
    c.has_api-known.ensures c.in_ok-add_where.ensures)

pub returns : goal.returns
returns c =
    gathers_all (λ (x : Import). IsUnknownImport c.args.units.now x.name) c.args.imports.now
    c.loop-import.import-index _ _ c.loop-import-test.false c.loop-import.invariant
