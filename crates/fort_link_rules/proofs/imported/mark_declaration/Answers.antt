use Rattle.std.proofs.Common.{sym, subst}
use Rattle.fort_link_rules.specs.Imported.{declared_names}
use Rattle.fort_link_rules.specs.Marks.{MarksNames}
use Rattle.fort_link_rules.proofs.Gathering.{on_ok}
use Rattle.fort_link_rules.proofs.imported.mark_declaration.Goals as goal

pub returns-in-Variable : goal.returns-in-Variable
returns-in-Variable c =
    on_ok c.add.result (subst (λ d. MarksNames (declared_names d) c.args.marks.now c.add.new.self)
    (sym c.in-Variable.is)) c.add.ensures

pub returns-in-Function : goal.returns-in-Function
returns-in-Function c =
    on_ok c.mark_function.result (subst (λ d. MarksNames (declared_names d) c.args.marks.now
    c.mark_function.new.marks) (sym c.in-Function.is)) c.mark_function.ensures

pub returns-in-Trait : goal.returns-in-Trait
returns-in-Trait c =
    on_ok c.add-in-Trait.result (subst (λ d. MarksNames (declared_names d) c.args.marks.now
    c.add-in-Trait.new.self) (sym c.in-Trait.is)) c.add-in-Trait.ensures

pub returns-in-Object : goal.returns-in-Object
returns-in-Object c =
    on_ok c.add-in-Object.result (subst (λ d. MarksNames (declared_names d) c.args.marks.now
    c.add-in-Object.new.self) (sym c.in-Object.is)) c.add-in-Object.ensures
