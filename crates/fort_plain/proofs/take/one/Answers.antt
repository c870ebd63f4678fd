use Rattle.std.proofs.Common.{subst}
use Rattle.fort_plain.specs.Paths.{whole}
use Rattle.fort_plain.specs.Takes.{ActsOn}
use Rattle.fort_plain.proofs.Taking.{begun_attempt, end_is_last, illegal_within, last_within, leave_within, open_within, passes_within, step_within, unclosed_within}
use Rattle.fort_plain.proofs.Less.{leave_less, open_less, step_less}
use Rattle.fort_plain.proofs.take.one.Goals as goal

pub act-requires-clause-turn : goal.act-requires-clause-turn
act-requires-clause-turn c =
    λ e. end_is_last c.args.within.source.ajar c.args.is_last _ c.ends_all-is_end.ensures e

pub returns-in-Goes-clause-goes : goal.returns-in-Goes-clause-goes
returns-in-Goes-clause-goes c =
    let g = c.args.within.going in
    step_within _ c.args.within _ _ _ _ c.requires.within c.requires.here
    (subst (ActsOn c.args.program.now g.course (whole g.course.clock g.state) _ c.args.pick.now)
    c.in-Goes.is c.in_ok-going.ensures)

pub within_of-inner-requires : goal.within_of-inner-requires
within_of-inner-requires c =
    let g = c.args.within.going in
    begun_attempt _ g.course _ _
    (subst (ActsOn c.args.program.now g.course (whole g.course.clock g.state) _ c.args.pick.now)
    c.in-Opens.is c.in_ok-going.ensures)

pub returns-in-Opens-clause-goes : goal.returns-in-Opens-clause-goes
returns-in-Opens-clause-goes c =
    let g = c.args.within.going in
    open_within _ c.args.within _ _ _ _ _ _ c.requires.within c.requires.here
    (subst (ActsOn c.args.program.now g.course (whole g.course.clock g.state) _ c.args.pick.now)
    c.in-Opens.is c.in_ok-going.ensures) c.within_of-inner.ensures c.ends_all-is_end.ensures
    c.in_ok-push-in-Opens.ensures.ok

pub returns-in-Leaves-clause-goes : goal.returns-in-Leaves-clause-goes
returns-in-Leaves-clause-goes c =
    let g = c.args.within.going in
    leave_within _ c.args.within _ _ _ _ c.requires.here c.ends_all-is_end.ensures
    (subst (ActsOn c.args.program.now g.course (whole g.course.clock g.state) _ c.args.pick.now)
    c.in-Leaves.is c.in_ok-going.ensures) c.leave.ensures

pub returns-in-Unclosed-clause-goes : goal.returns-in-Unclosed-clause-goes
returns-in-Unclosed-clause-goes c =
    let g = c.args.within.going in
    unclosed_within _ c.args.within _ _ c.requires.within c.requires.here c.ends_all-is_end.ensures
    (subst (ActsOn c.args.program.now g.course (whole g.course.clock g.state) _ c.args.pick.now)
    c.in-Unclosed.is c.in_ok-going.ensures)

pub returns-in-Illegal-clause-goes : goal.returns-in-Illegal-clause-goes
returns-in-Illegal-clause-goes c =
    let g = c.args.within.going in
    illegal_within _ c.args.within _ _ c.requires.within c.requires.here
    (subst (ActsOn c.args.program.now g.course (whole g.course.clock g.state) _ c.args.pick.now)
    c.in-Illegal.is c.in_ok-going.ensures)

pub returns-in-Passes-clause-goes : goal.returns-in-Passes-clause-goes
returns-in-Passes-clause-goes c =
    let g = c.args.within.going in
    passes_within _ c.args.within _ _ c.requires.within c.requires.here
    (subst (ActsOn c.args.program.now g.course (whole g.course.clock g.state) _ c.args.pick.now)
    c.in-Passes.is c.in_ok-going.ensures)

pub returns-clause-goes : goal.returns-clause-goes
returns-clause-goes c =
    let g = c.args.within.going in
    last_within _ c.args.within _ _ _ _ c.requires.within c.requires.here c.ends_all-is_end.ensures
    (subst (ActsOn c.args.program.now g.course (whole g.course.clock g.state) _ c.args.pick.now)
    c.in-Last.is c.in_ok-going.ensures)

pub returns-in-Goes-clause-less : goal.returns-in-Goes-clause-less
returns-in-Goes-clause-less c =
    let g = c.args.within.going in
    step_less _ c.args.within _ _ _ _ c.requires.here
    (subst (ActsOn c.args.program.now g.course (whole g.course.clock g.state) _ c.args.pick.now)
    c.in-Goes.is c.in_ok-going.ensures)

pub returns-in-Opens-clause-less : goal.returns-in-Opens-clause-less
returns-in-Opens-clause-less c =
    let g = c.args.within.going in
    open_less _ c.args.within _ _ _ c.in-Opens.going c.within_of-inner.result _ c.requires.here
    (subst (ActsOn c.args.program.now g.course (whole g.course.clock g.state) _ c.args.pick.now)
    c.in-Opens.is c.in_ok-going.ensures) c.within_of-inner.ensures c.in_ok-push-in-Opens.ensures.ok

pub returns-in-Leaves-clause-less : goal.returns-in-Leaves-clause-less
returns-in-Leaves-clause-less c =
    let g = c.args.within.going in
    leave_less _ c.args.within _ _ _ _
    (subst (ActsOn c.args.program.now g.course (whole g.course.clock g.state) _ c.args.pick.now)
    c.in-Leaves.is c.in_ok-going.ensures) c.leave.ensures
