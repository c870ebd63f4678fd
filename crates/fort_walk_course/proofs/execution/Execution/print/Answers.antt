use Rattle.std.proofs.lemmas.Result.{IfOk-weaker}
use Rattle.fort_walk_course.proofs.Stepped.{print_stands, step_picks}
use Rattle.fort_walk_course.proofs.execution.Execution.print.Goals as goal

pub returns-clause-stands : goal.returns-clause-stands
returns-clause-stands c =
    let a = c.args in
    let r = c.requires in
    IfOk-weaker c.stepped.result _ _
    (λ n s. print_stands a.program.now a.self n c.print.new.self a.place.now a.next.now a.text
    a.cost r.may (rw c.get_mut.ensures.value at c.in_ok-print.ensures.ok) r.affords s)
    (rw c.get_mut.ensures.value at c.stepped.ensures)

pub returns-clause-picks : goal.returns-clause-picks
returns-clause-picks c =
    let a = c.args in
    IfOk-weaker c.stepped.result _ _
    (λ n s. step_picks a.self n c.print.new.self a.self.fresh a.place.now 0 a.cost s)
    (rw c.get_mut.ensures.value at c.stepped.ensures)
