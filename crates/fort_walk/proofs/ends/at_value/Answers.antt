use Rattle.std.proofs.Common.{◌≡◌, true, false, sym, ◌∙◌, subst}
use Rattle.fort_core.specs.declared.term.Term as term
use Rattle.fort_machine.specs.Attempts.{goes}
use Rattle.fort_walk_course.specs.Courses.{HasCome}
use Rattle.fort_walk_turns.specs.Idles.{Follows}
use Rattle.fort_frames.specs.States.{term_at}
use Rattle.fort_walk_turns.proofs.Growing.{closed_grows, ends_grown, onward_by}
use Rattle.fort_walk.proofs.Ending.{value_stuck}
use Rattle.fort_walk.proofs.ends.at_value.Goals as goal

pub returns-in_ok-going-in-Some-clause-follows : goal.returns-in_ok-going-in-Some-clause-follows
returns-in_ok-going-in-Some-clause-follows c =
    subst (λ f. Follows c.args.program.now f c.closed.result) c.in_ok-going-in-Some.ensures.fuel
    c.closed.ensures.follows

pub end_completed-requires-clause-come : goal.end_completed-requires-clause-come
end_completed-requires-clause-come c =
    subst (λ v. HasCome c.args.program.now c.args.course (goes (term.Value v)))
    (c.is_unit.ensures.0 c.if-is_unit.true) c.requires

pub returns-else-is_unit-clause-follows : goal.returns-else-is_unit-clause-follows
returns-else-is_unit-clause-follows c =
    value_stuck c.args.program.now c.args.course c.args.value c.requires c.in-None.ensures
    (λ e. let z : true ≡ false = sym (c.is_unit.ensures.1 e) ∙ c.if-is_unit.false in absurd cc)

pub returns-in_ok-going-in-Some-clause-grows : goal.returns-in_ok-going-in-Some-clause-grows
returns-in_ok-going-in-Some-clause-grows c =
    let going = c.in_ok-going-in-Some.going in
    onward_by c.args.course going.course c.closed.result
    (closed_grows c.args.program.now c.args.course going.course going.state.place
    (term_at going.state.«at») (goes (term.Value c.args.value)) c.args.course.picks c.requires
    c.in_ok-going-in-Some.ensures.going c.in_ok-going-in-Some.ensures.picks)
    c.closed.ensures.grows

pub returns-then-is_unit-clause-grows : goal.returns-then-is_unit-clause-grows
returns-then-is_unit-clause-grows c =
    ends_grown c.args.program.now c.args.course c.args.course.fuel
    (goes (term.Value c.args.value)) c.end_completed.result c.requires
    c.end_completed.ensures.run c.end_completed.ensures.picks
