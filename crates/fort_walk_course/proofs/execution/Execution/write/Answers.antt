use Rattle.std.proofs.lemmas.Result.{IfOk-weaker}
use Rattle.fort_walk_course.proofs.Stepped.{write_stands, step_picks}
use Rattle.fort_walk_course.proofs.execution.Execution.write.Goals as goal

pub returns-clause-stands : goal.returns-clause-stands
returns-clause-stands c =
    let a = c.args in
    let r = c.requires in
    let adds = rw (c.if-not-branch.false, c.get_mut.ensures.value) at c.in_ok-write.ensures.ok in
    IfOk-weaker c.stepped.result _ _
    (λ n s. write_stands a.program.now a.self n c.write.new.self a.place.now a.next.now a.loc.0
    a.value r.may adds r.affords s)
    (rw c.get_mut.ensures.value at c.stepped.ensures)

pub returns-clause-picks : goal.returns-clause-picks
returns-clause-picks c =
    let a = c.args in
    IfOk-weaker c.stepped.result _ _
    (λ n s. step_picks a.self n c.write.new.self a.self.fresh a.place.now 0 1 s)
    (rw c.get_mut.ensures.value at c.stepped.ensures)
