use Rattle.fort_link_rules.proofs.Gathering.{on_ok}
use Rattle.fort_link_rules.proofs.Used.{imported_all, imported_not}
use Rattle.fort_link_rules.proofs.imported.mark_imported.Goals as goal

pub returns-then-imported : goal.returns-then-imported
returns-then-imported c =
    on_ok c.mark_promised.result (imported_all c.args.component.now c.args.api.now
    c.imports-imported.result c.args.marks.now c.mark_promised.new.marks c.imports-imported.ensures
    c.if-imported.true c.as_slice.ensures) c.mark_promised.ensures

pub returns-else-imported : goal.returns-else-imported
returns-else-imported c =
    imported_not c.args.component.now c.args.api.now c.imports-imported.result c.args.marks.now
    c.imports-imported.ensures c.if-imported.false
