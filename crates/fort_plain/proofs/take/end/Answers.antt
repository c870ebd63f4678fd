use Rattle.std.proofs.Common.{subst}
use Rattle.fort_plain.specs.Paths.{whole}
use Rattle.fort_plain.specs.Takes.{Closes}
use Rattle.fort_plain.proofs.Taking.{close_within, last_end, open_end}
use Rattle.fort_plain.proofs.Less.{close_less}
use Rattle.fort_plain.proofs.take.end.Goals as goal

pub returns-then-source-clause-goes : goal.returns-then-source-clause-goes
returns-then-source-clause-goes c =
    rw c.spent-cost.ensures
    (last_end _ c.args.within c.requires.within c.requires.over c.if-source.true)

pub returns-in-None-clause-goes : goal.returns-in-None-clause-goes
returns-in-None-clause-goes c =
    let g = c.args.within.going in
    open_end _ c.args.within c.requires.within c.requires.over c.if-source.false
    (subst (Closes c.args.program.now g.course (whole g.course.clock g.state)) c.in-None.is
    c.in_ok-close.ensures)

pub returns-clause-goes : goal.returns-clause-goes
returns-clause-goes c =
    let g = c.args.within.going in
    close_within _ c.args.within _ _
    (subst (Closes c.args.program.now g.course (whole g.course.clock g.state)) c.in-Some.is
    c.in_ok-close.ensures) c.requires.over c.if-source.false c.leave.ensures

pub returns-clause-less : goal.returns-clause-less
returns-clause-less c =
    let g = c.args.within.going in
    close_less _ c.args.within _ _
    (subst (Closes c.args.program.now g.course (whole g.course.clock g.state)) c.in-Some.is
    c.in_ok-close.ensures) c.leave.ensures
