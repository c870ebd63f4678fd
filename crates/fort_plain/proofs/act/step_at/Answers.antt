use Rattle.std.proofs.Common.{subst}
use Rattle.std.proofs.lemmas.Result.{IfOk-weaker}
use Rattle.fort_frames_moves.specs.Turns.{ready_term}
use Rattle.fort_plain.specs.Paths.{IsFound, whole}
use Rattle.fort_plain.proofs.Marks.{marks_here}
use Rattle.fort_plain.proofs.Attempting.{thread_there, acts_there, form_no_step, nothing_steps}
use Rattle.fort_plain.proofs.act.step_at.Goals as goal

pub find-requires-clause-reached : goal.find-requires-clause-reached
find-requires-clause-reached c = rw c.clock.ensures c.requires.going.course.reached

pub find-requires-clause-marks : goal.find-requires-clause-marks
find-requires-clause-marks c =
    rw c.clock.ensures
    (marks_here c.args.program.now c.requires.written c.args.course c.args.state c.requires.going)

pub step-requires-clause-thread : goal.step-requires-clause-thread
step-requires-clause-thread c =
    let h = subst
    (IsFound c.args.course.clock (whole c.args.course.clock c.args.state) c.args.path.now)
    c.in-Steps.is (rw c.clock.ensures at c.in_ok-place.ensures) in
    thread_there c.args.program.now c.args.course c.args.state c.in-Steps.place c.in-Steps.ready
    c.requires.going h.0

pub returns-in-Tries : goal.returns-in-Tries
returns-in-Tries c =
    let h = subst
    (IsFound c.args.course.clock (whole c.args.course.clock c.args.state) c.args.path.now)
    c.in-Tries.is (rw c.clock.ensures at c.in_ok-place.ensures) in
    form_no_step c.args.program.now c.args.course (whole c.args.course.clock c.args.state) _ _
    c.args.path.now c.args.turn c.args.loc.0 h.0 h.1

pub returns-in-Nothing : goal.returns-in-Nothing
returns-in-Nothing c =
    let h = subst
    (IsFound c.args.course.clock (whole c.args.course.clock c.args.state) c.args.path.now)
    c.in-Nothing.is (rw c.clock.ensures at c.in_ok-place.ensures) in
    nothing_steps c.args.program.now c.args.course (whole c.args.course.clock c.args.state)
    c.args.path.now c.args.turn c.args.loc.0 h

pub returns-in-Steps : goal.returns-in-Steps
returns-in-Steps c =
    let h = subst
    (IsFound c.args.course.clock (whole c.args.course.clock c.args.state) c.args.path.now)
    c.in-Steps.is (rw c.clock.ensures at c.in_ok-place.ensures) in
    IfOk-weaker c.step.result _ _
    (λ r k. acts_there c.args.program.now c.args.course (whole c.args.course.clock c.args.state)
    c.in-Steps.place (ready_term c.in-Steps.ready) c.args.path.now c.args.turn c.args.loc.0
    r h.0.thread.is_at h.1 k)
    c.step.ensures
