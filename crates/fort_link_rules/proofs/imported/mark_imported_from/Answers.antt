use Rattle.std.proofs.Common.{sym, subst}
use Rattle.fort_link_rules.specs.Imported.{names_imported_from}
use Rattle.fort_link_rules.specs.Marks.{MarksNames}
use Rattle.fort_link_rules.proofs.Gathering.{on_ok}
use Rattle.fort_link_rules.proofs.Used.{imported_from_component}
use Rattle.fort_link_rules.proofs.imported.mark_imported_from.Goals as goal

pub returns-in-Component : goal.returns-in-Component
returns-in-Component c =
    imported_from_component c.args.component.now _ c.args.unit.now c.args.marks.now c.in-Component.is

pub returns-in-Api : goal.returns-in-Api
returns-in-Api c =
    on_ok c.mark_imported.result (subst (λ u. MarksNames (names_imported_from c.args.component.now u)
    c.args.marks.now c.mark_imported.new.marks) (sym c.in-Api.is)) c.mark_imported.ensures
