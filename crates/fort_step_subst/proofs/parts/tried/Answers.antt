use Rattle.fort_step_subst.proofs.Equations.{place-Try}
use Rattle.fort_step_subst.proofs.parts.tried.Goals as goal

pub returns-in_ok-new-in-Some : goal.returns-in_ok-new-in-Some
returns-in_ok-new-in-Some c =
    let h = rw c.in-Some.is at c.requires in
    let e = place-Try c.args._put.now c.args._body.now c.args.variable c.args._clauses.now
    c.args._last.now in
    cc (h.0, h.1, h.2, e, c.in_ok-new-in-Some.ensures)
