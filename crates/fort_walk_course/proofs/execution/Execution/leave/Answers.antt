use Rattle.std.proofs.Common.{refl}
use Rattle.fort_walk_course.specs.declared.attempts.Standing.{Standing}
use Rattle.fort_walk_course.proofs.Left.{kept_waits, leaves, left_may, not_none}
use Rattle.fort_walk_course.proofs.Trying.{has_attempt}
use Rattle.fort_walk_course.proofs.execution.Execution.leave.Goals as goal

pub undone-undone-requires-clause-inside : goal.undone-undone-requires-clause-inside
undone-undone-requires-clause-inside c =
    rw c.into_course.ensures (kept_waits c.args.self c.requires.kept)

pub undone-undone-requires-clause-open : goal.undone-undone-requires-clause-open
undone-undone-requires-clause-open c =
    rw c.into_course.ensures
    (has_attempt c.args.program.now c.args.self c.requires.come.0 c.requires.come.1
    (kept_waits c.args.self c.requires.kept))

pub undone-undone-requires-clause-spent : goal.undone-undone-requires-clause-spent
undone-undone-requires-clause-spent c = rw c.into_course.ensures c.requires.come.1.is_spent

pub unreachable-requires : goal.unreachable-requires
unreachable-requires c =
    not_none c.args.self c.undone-undone.result c.requires.kept
    (rw c.into_course.ensures at c.undone-undone.ensures) c.in-None.is

pub returns-clause-may : goal.returns-clause-may
returns-clause-may c =
    let s : Standing = record {
      course = c.in_ok-course-in-Some.course;
      place = c.undone-undone.result.place;
      form = c.in-Some.form;
      turn = c.undone-undone.result.turn;
    } in
    left_may c.args.program.now c.args.self s c.requires.come.0 c.requires.come.1
    (leaves c.args.self c.undone-undone.result s
    (rw c.into_course.ensures at c.undone-undone.ensures) c.in_ok-course-in-Some.ensures refl
    c.in-Some.is refl)

pub returns-clause-left : goal.returns-clause-left
returns-clause-left c =
    leaves c.args.self c.undone-undone.result _
    (rw c.into_course.ensures at c.undone-undone.ensures) c.in_ok-course-in-Some.ensures refl
    c.in-Some.is refl
