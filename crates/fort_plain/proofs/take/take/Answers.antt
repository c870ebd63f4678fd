use Rattle.std.proofs.Common.{subst}
use Rattle.fort_plain.specs.Within.{TakesOn}
use Rattle.fort_plain.proofs.Less.{next_less}
use Rattle.fort_plain.proofs.Taking.{one_more}
use Rattle.fort_plain.proofs.take.take.Goals as goal

pub turns-init : goal.turns-init
turns-init c = c.in_ok-next.ensures

pub go-requires-clause-within : goal.go-requires-clause-within
go-requires-clause-within c =
    let g = c.args.going
    in (subst
    (TakesOn c.args.program.now g.course.fuel c.args.ajar g.course.picks c.args.pick.now)
    c.in-Goes.is c.turns.invariant).within

pub turns-preserved : goal.turns-preserved
turns-preserved c =
    let g = c.args.going in
    one_more _ _ _ g.course.fuel c.args.ajar g.course.picks c.args.pick.now
    c.in_ok-next-in-Goes.ensures.goes
    (subst (TakesOn c.args.program.now g.course.fuel c.args.ajar g.course.picks c.args.pick.now)
    c.in-Goes.is c.turns.invariant)

pub returns-in-Ends : goal.returns-in-Ends
returns-in-Ends c =
    let g = c.args.going
    in subst (TakesOn c.args.program.now g.course.fuel c.args.ajar g.course.picks
    c.args.pick.now) c.in-Ends.is c.turns.invariant

pub turns-smaller : goal.turns-smaller
turns-smaller c =
    next_less c.in-Goes.within c.turns.next _ c.in-Goes.is c.in_ok-next-in-Goes.ensures.less
