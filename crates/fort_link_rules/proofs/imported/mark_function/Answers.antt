use Rattle.std.proofs.Common.{sym, subst}
use Rattle.fort_link_rules.specs.Imported.{function_names}
use Rattle.fort_link_rules.specs.Marks.{MarksNames}
use Rattle.fort_link_rules.proofs.Gathering.{on_ok}
use Rattle.fort_link_rules.proofs.Marking.{marks_none}
use Rattle.fort_link_rules.proofs.imported.mark_function.Goals as goal

pub returns-in-Name : goal.returns-in-Name
returns-in-Name c =
    on_ok c.add.result (subst (λ n. MarksNames (function_names n) c.args.marks.now c.add.new.self)
    (sym c.in-Name.is)) c.add.ensures

pub returns-in-Operator : goal.returns-in-Operator
returns-in-Operator c =
    subst (λ n. MarksNames (function_names n) c.args.marks.now c.args.marks.now)
    (sym c.in-Operator.is) (marks_none c.args.marks.now)

pub returns-in-Juxtaposition : goal.returns-in-Juxtaposition
returns-in-Juxtaposition c =
    subst (λ n. MarksNames (function_names n) c.args.marks.now c.args.marks.now)
    (sym c.in-Juxtaposition.is) (marks_none c.args.marks.now)
