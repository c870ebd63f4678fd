use Rattle.std.proofs.Common.{subst}
use Rattle.fort_walk_turns.specs.Idles.{Follows}
use Rattle.fort_machine.specs.Attempts.{goes}
use Rattle.fort_machine.specs.Ends.{throw_of}
use Rattle.fort_frames.specs.States.{term_at}
use Rattle.fort_walk_turns.proofs.Growing.{closed_grows, ends_grown, onward_by}
use Rattle.fort_walk.proofs.ends.at_throw.Goals as goal

pub returns-in_ok-going-in-Some-clause-follows : goal.returns-in_ok-going-in-Some-clause-follows
returns-in_ok-going-in-Some-clause-follows c =
    subst (λ f. Follows c.args.program.now f c.closed.result) c.in_ok-going-in-Some.ensures.fuel
    c.closed.ensures.follows

pub returns-in_ok-going-in-Some-clause-grows : goal.returns-in_ok-going-in-Some-clause-grows
returns-in_ok-going-in-Some-clause-grows c =
    let going = c.in_ok-going-in-Some.going in
    onward_by c.args.course going.course c.closed.result
    (closed_grows c.args.program.now c.args.course going.course going.state.place
    (term_at going.state.«at») (goes (throw_of c.args.thrown)) c.args.course.picks c.requires
    c.in_ok-going-in-Some.ensures.going c.in_ok-going-in-Some.ensures.picks)
    c.closed.ensures.grows

pub returns-in-None-clause-grows : goal.returns-in-None-clause-grows
returns-in-None-clause-grows c =
    ends_grown c.args.program.now c.args.course c.args.course.fuel
    (goes (throw_of c.args.thrown)) c.end_uncaught.result c.requires
    c.end_uncaught.ensures.run c.end_uncaught.ensures.picks
