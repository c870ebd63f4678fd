use Rattle.std.proofs.Common.{subst}
use Rattle.fort_frames_moves.specs.Turns.{IsStop}
use Rattle.fort_plain.specs.Paths.{whole}
use Rattle.fort_plain.proofs.Marks.{none_odd}
use Rattle.fort_plain.proofs.Finding.{own_step, step_sought, own_try, try_sought, own_group, group_sought, ends_sought}
use Rattle.fort_plain.proofs.find.one_thread.Goals as goal

pub at_step-requires : goal.at_step-requires
at_step-requires c =
    own_step c.args.clock (whole c.args.clock c.args.state) c.in-Steps.place c.in-Steps.ready
    (subst (IsStop c.args.clock (whole c.args.clock c.args.state)) c.in-Steps.is
    c.in_ok-place.ensures.stops)

pub returns-in-Steps : goal.returns-in-Steps
returns-in-Steps c =
    step_sought c.args.clock (whole c.args.clock c.args.state) c.in-Steps.place c.in-Steps.ready
    c.args.path.now c.at_step.result
    (subst (IsStop c.args.clock (whole c.args.clock c.args.state)) c.in-Steps.is
    c.in_ok-place.ensures.stops) c.at_step.ensures

pub at_form-requires : goal.at_form-requires
at_form-requires c =
    own_try c.args.clock (whole c.args.clock c.args.state) c.in-Tries.form c.in-Tries.place
    (subst (IsStop c.args.clock (whole c.args.clock c.args.state)) c.in-Tries.is
    c.in_ok-place.ensures.stops)

pub returns-in-Tries : goal.returns-in-Tries
returns-in-Tries c =
    try_sought c.args.clock (whole c.args.clock c.args.state) c.in-Tries.form c.in-Tries.place
    c.args.path.now c.at_form.result
    (subst (IsStop c.args.clock (whole c.args.clock c.args.state)) c.in-Tries.is
    c.in_ok-place.ensures.stops) c.at_form.ensures

pub at_group-requires : goal.at_group-requires
at_group-requires c =
    own_group c.args.clock (whole c.args.clock c.args.state) c.in-Groups.place c.in-Groups.parts
    (subst (IsStop c.args.clock (whole c.args.clock c.args.state)) c.in-Groups.is
    c.in_ok-place.ensures.stops)

pub returns-in-Groups : goal.returns-in-Groups
returns-in-Groups c =
    group_sought c.args.clock (whole c.args.clock c.args.state) c.in-Groups.place c.in-Groups.parts
    c.args.path.now c.at_group.result
    (subst (IsStop c.args.clock (whole c.args.clock c.args.state)) c.in-Groups.is
    c.in_ok-place.ensures.stops) c.at_group.ensures

pub unreachable-requires : goal.unreachable-requires
unreachable-requires c =
    none_odd c.args.clock (whole c.args.clock c.args.state) _ _ c.requires.marks
    (subst (IsStop c.args.clock (whole c.args.clock c.args.state)) c.in-Odd.is
    c.in_ok-place.ensures.stops)

pub returns-in-Ends : goal.returns-in-Ends
returns-in-Ends c =
    ends_sought c.args.clock (whole c.args.clock c.args.state) c.in-Ends.«at» c.args.path.now
    c.ends.result
    (subst (IsStop c.args.clock (whole c.args.clock c.args.state)) c.in-Ends.is
    c.in_ok-place.ensures.stops) c.ends.ensures
