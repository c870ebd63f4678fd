use Rattle.std.proofs.Common.{subst}
use Rattle.std.proofs.lemmas.Result.{IfOk-weaker}
use Rattle.fort_plain.specs.Paths.{IsFound, whole}
use Rattle.fort_plain.proofs.Marks.{marks_here}
use Rattle.fort_plain.proofs.Attempting.{stands_there, tries_there, thread_not_tried, nothing_tried}
use Rattle.fort_plain.proofs.act.attempt_at.Goals as goal

pub find-requires-clause-reached : goal.find-requires-clause-reached
find-requires-clause-reached c = rw c.clock.ensures c.requires.going.course.reached

pub find-requires-clause-marks : goal.find-requires-clause-marks
find-requires-clause-marks c =
    rw c.clock.ensures
    (marks_here c.args.program.now c.requires.written c.args.course c.args.state c.requires.going)

pub begin-requires-clause-stands : goal.begin-requires-clause-stands
begin-requires-clause-stands c =
    let h = subst
    (IsFound c.args.course.clock (whole c.args.course.clock c.args.state) c.args.path.now)
    c.in-Tries.is (rw c.clock.ensures at c.in_ok-place.ensures) in
    stands_there c.args.program.now c.args.course c.args.state c.in-Tries.place c.in-Tries.form
    c.requires.going h.0.is_at

pub begin-requires-clause-atomic : goal.begin-requires-clause-atomic
begin-requires-clause-atomic c =
    let h = subst
    (IsFound c.args.course.clock (whole c.args.course.clock c.args.state) c.args.path.now)
    c.in-Tries.is (rw c.clock.ensures at c.in_ok-place.ensures) in
    (h.0.mode, h.0.body, h.0.is_form)

pub returns-in-Tries : goal.returns-in-Tries
returns-in-Tries c =
    let h = subst
    (IsFound c.args.course.clock (whole c.args.course.clock c.args.state) c.args.path.now)
    c.in-Tries.is (rw c.clock.ensures at c.in_ok-place.ensures) in
    IfOk-weaker c.begin.result _ _
    (λ r k. tries_there c.args.program.now c.args.course (whole c.args.course.clock c.args.state)
    c.in-Tries.place c.in-Tries.form c.args.path.now c.args.turn c.args.within.now r
    h.0.is_at h.1 (k c.args.turn c.args.within.now))
    c.begin.ensures

pub returns-in-Steps : goal.returns-in-Steps
returns-in-Steps c =
    let h = subst
    (IsFound c.args.course.clock (whole c.args.course.clock c.args.state) c.args.path.now)
    c.in-Steps.is (rw c.clock.ensures at c.in_ok-place.ensures) in
    thread_not_tried c.args.program.now c.args.course (whole c.args.course.clock c.args.state) _ _
    c.args.path.now c.args.turn c.args.within.now h.0 h.1

pub returns-in-Nothing : goal.returns-in-Nothing
returns-in-Nothing c =
    let h = subst
    (IsFound c.args.course.clock (whole c.args.course.clock c.args.state) c.args.path.now)
    c.in-Nothing.is (rw c.clock.ensures at c.in_ok-place.ensures) in
    nothing_tried c.args.program.now c.args.course (whole c.args.course.clock c.args.state)
    c.args.path.now c.args.turn c.args.within.now h
