use Rattle.fort_typing_tasks.proofs.Binders.{case_arm, typecase_arm, try_arm}
use Rattle.fort_typing_tasks.proofs.forms.inside.Goals as goal

pub returns-in-Case : goal.returns-in-Case
returns-in-Case c =
    case_arm c.args.form.now c.in-Case.field-0 c.in-Case.subject c.in-Case.branches c.in-Case.other
    c.args.tasks.now c.case_inside.new.tasks c.case_inside.result c.in-Case.is c.case_inside.ensures

pub returns-in-Typecase : goal.returns-in-Typecase
returns-in-Typecase c =
    typecase_arm c.args.form.now c.in-Typecase.field-0 c.in-Typecase.at c.in-Typecase.name
    c.in-Typecase.subject c.in-Typecase.branches c.in-Typecase.other c.args.tasks.now
    c.typecase_inside.new.tasks
    c.typecase_inside.result c.in-Typecase.is c.typecase_inside.ensures

pub returns-in-Try : goal.returns-in-Try
returns-in-Try c =
    try_arm c.args.form.now c.in-Try.field-0 c.in-Try.block c.in-Try.name c.in-Try.branches
    c.in-Try.last c.args.tasks.now c.try_inside.new.tasks c.try_inside.result c.in-Try.is
    c.try_inside.ensures
