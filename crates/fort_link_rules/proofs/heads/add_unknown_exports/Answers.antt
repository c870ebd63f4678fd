use Rattle.fort_tree.specs.declared.declarations.Export.{Export}
use Rattle.fort_link_rules.specs.Heads.{IsUnknownExport}
use Rattle.fort_link_rules.proofs.Gathering.{gathers_none, gathers_more_at, gathers_all, gathers_where_not}
use Rattle.fort_link_rules.proofs.heads.add_unknown_exports.Goals as goal

pub loop-export-init : goal.loop-export-init
loop-export-init c =
    gathers_none (λ (x : Export). IsUnknownExport c.args.names.now c.args.units.now x.name) c.args.exports.now _

pub loop-export-preserved : goal.loop-export-preserved
loop-export-preserved c =
    gathers_more_at (λ (x : Export). IsUnknownExport c.args.names.now c.args.units.now x.name) c.args.exports.now
    c.loop-export.export-index _ _ c.loop-export.places c.add_where.new.places
    c.loop-export-test.true c.loop-export.invariant
    (gathers_where_not c.may_export-known.result _ _ c.loop-export.places c.add_where.new.places
    c.may_export-known.ensures c.in_ok-add_where.ensures)

pub returns : goal.returns
returns c =
    gathers_all (λ (x : Export). IsUnknownExport c.args.names.now c.args.units.now x.name) c.args.exports.now
    c.loop-export.export-index _ _ c.loop-export-test.false c.loop-export.invariant
