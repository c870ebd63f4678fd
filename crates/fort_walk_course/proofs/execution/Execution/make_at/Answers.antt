use Rattle.std.proofs.Common.{ℕ, ◌≤◌, ◌^◌, subst, sym}
use Rattle.std.proofs.lemmas.Result.{IfOk-weaker}
use Rattle.fort_walk_course.proofs.Stepped.{make_stands, step_picks}
use Rattle.fort_walk_course.proofs.execution.Execution.make_at.Goals as goal

pub returns-clause-stands : goal.returns-clause-stands
returns-clause-stands c =
    let a = c.args in
    let r = c.requires in
    let above = c.above-above.ensures in
    let bound : c.above-above.result ≤ 2 ^ 64 =
    subst (λ (n : ℕ). n ≤ 2 ^ 64) (sym above) r.bounded in
    IfOk-weaker c.stepped.result _ _
    (λ n s.
    make_stands a.program.now a.self n c.make.new.self a.first.0 c.above-above.result
    c.higher-fresh.result a.place.now a.next.now a.values.now a.cost
    r.may (rw c.get_mut-run.ensures.value at c.in_ok-make.ensures) r.affords above bound
    (rw c.get_mut-run.ensures.value at c.higher-fresh.ensures.first)
    c.higher-fresh.ensures.second s)
    (rw c.get_mut-run.ensures.value at c.stepped.ensures)

pub returns-clause-picks : goal.returns-clause-picks
returns-clause-picks c =
    let a = c.args in
    IfOk-weaker c.stepped.result _ _
    (λ n s. step_picks a.self n c.make.new.self c.higher-fresh.result a.place.now a.first.0
    a.cost s) (rw c.get_mut-run.ensures.value at c.stepped.ensures)
