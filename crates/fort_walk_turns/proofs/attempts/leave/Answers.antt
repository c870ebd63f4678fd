use Rattle.fort_walk_turns.proofs.Leaving.{left_again}
use Rattle.fort_walk_turns.proofs.Growing.{undone_grows}
use Rattle.fort_walk_turns.proofs.attempts.leave.Goals as goal

pub returns-clause-follows : goal.returns-clause-follows
returns-clause-follows c =
    let may = c.in_ok-course.ensures.may in (
      left_again c.args.program.now c.in_ok-course.field-0.course c.left.result
          c.in_ok-course.field-0.place c.in_ok-course.field-0.form may.0 may.1 c.sleeps-wakes.result
          may.2 (rw c.get.ensures at c.sleeps-wakes.ensures) c.left.ensures.idle
          c.left.ensures.wakes,
      c.in_ok-course.ensures.left.undoes.fuel,
    )

pub returns-clause-grows : goal.returns-clause-grows
returns-clause-grows c =
    let may = c.in_ok-course.ensures.may in
    let left = c.in_ok-course.ensures.left in
    let to = c.in_ok-course.field-0 in
    undone_grows c.args.program.now c.args.course to.course to.place may.2.0.form
    c.requires.come.0 left.waiting c.requires.come.1 may.2.0.stands left.undoes
