use Rattle.std.proofs.lemmas.Result.{IfOk-weaker}
use Rattle.fort_walk_course.proofs.Stepped.{read_stands, step_picks}
use Rattle.fort_walk_course.proofs.execution.Execution.read.Goals as goal

pub returns-clause-stands : goal.returns-clause-stands
returns-clause-stands c =
    let a = c.args in
    let r = c.requires in
    let reads = rw (c.in-Some.is, c.get_mut.ensures.value) at c.in_ok-read.ensures.ok in
    IfOk-weaker c.stepped.result _ _
    (λ n s. read_stands a.program.now a.self n c.read.new.self a.place.now a.next.now a.loc.0
    a.value.now _ r.may r.there reads.0 reads.1 r.affords s)
    (rw c.get_mut.ensures.value at c.stepped.ensures)

pub returns-clause-picks : goal.returns-clause-picks
returns-clause-picks c =
    let a = c.args in
    IfOk-weaker c.stepped.result _ _
    (λ n s. step_picks a.self n c.read.new.self a.self.fresh a.place.now 0 1 s)
    (rw c.get_mut.ensures.value at c.stepped.ensures)
