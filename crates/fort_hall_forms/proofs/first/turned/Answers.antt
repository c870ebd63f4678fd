use Rattle.std.proofs.Common.{◌∙◌, subst}
use Rattle.std.specs.Prelude.{IfOk}
use Rattle.fort_store_effects.specs.Levels.{levels_of, seen}
use Rattle.fort_hall_forms.specs.Sought.{Follows, whole}
use Rattle.fort_hall_forms.proofs.Odd.{never_odd}
use Rattle.fort_hall_forms.proofs.Seeking.{ended, gathered, steps_here, stopped, tries_here}
use Rattle.fort_hall_forms.proofs.first.turned.Goals as goal

pub moved-requires : goal.moved-requires
moved-requires c = c.requires.sought.reached

-- ---- at a thread that takes steps

pub at_thread-requires-clause-part : goal.at_thread-requires-clause-part
at_thread-requires-clause-part c =
    (steps_here c.args.program.now (seen (levels_of c.args.view.now)) c.args.state _ _ _ _
    c.requires.part c.requires.sought c.in_ok-place.ensures.stops c.in_ok-place.ensures.sweeps
    c.in-Steps.is c.in_ok-form-in-Steps.ensures).0.part

pub at_thread-requires-clause-thread : goal.at_thread-requires-clause-thread
at_thread-requires-clause-thread c =
    (steps_here c.args.program.now (seen (levels_of c.args.view.now)) c.args.state _ _ _ _
    c.requires.part c.requires.sought c.in_ok-place.ensures.stops c.in_ok-place.ensures.sweeps
    c.in-Steps.is c.in_ok-form-in-Steps.ensures).1

pub at_thread-requires-clause-reached : goal.at_thread-requires-clause-reached
at_thread-requires-clause-reached c =
    (steps_here c.args.program.now (seen (levels_of c.args.view.now)) c.args.state _ _ _ _
    c.requires.part c.requires.sought c.in_ok-place.ensures.stops c.in_ok-place.ensures.sweeps
    c.in-Steps.is c.in_ok-form-in-Steps.ensures).0.reached

pub at_thread-requires-clause-left : goal.at_thread-requires-clause-left
at_thread-requires-clause-left c =
    (steps_here c.args.program.now (seen (levels_of c.args.view.now)) c.args.state _ _ _ _
    c.requires.part c.requires.sought c.in_ok-place.ensures.stops c.in_ok-place.ensures.sweeps
    c.in-Steps.is c.in_ok-form-in-Steps.ensures).0.left

pub returns-in_ok-form-in-Steps : goal.returns-in_ok-form-in-Steps
returns-in_ok-form-in-Steps c =
    let here = steps_here c.args.program.now (seen (levels_of c.args.view.now)) c.args.state _ _ _ _
    c.requires.part c.requires.sought c.in_ok-place.ensures.stops c.in_ok-place.ensures.sweeps
    c.in-Steps.is c.in_ok-form-in-Steps.ensures in
    subst (λ t. IfOk c.at_thread.result (Follows (seen (levels_of c.args.view.now)) t)) here.0.same
    c.at_thread.ensures

-- ---- at an atomic form

pub at_thread-requires-in-Tries-clause-part : goal.at_thread-requires-in-Tries-clause-part
at_thread-requires-in-Tries-clause-part c =
    (tries_here c.args.program.now (seen (levels_of c.args.view.now)) c.args.state _ _ _
    c.requires.part c.requires.sought c.in_ok-place.ensures.stops c.in_ok-place.ensures.sweeps
    c.in-Tries.is).0.part

pub at_thread-requires-in-Tries-clause-thread : goal.at_thread-requires-in-Tries-clause-thread
at_thread-requires-in-Tries-clause-thread c =
    (tries_here c.args.program.now (seen (levels_of c.args.view.now)) c.args.state _ _ _
    c.requires.part c.requires.sought c.in_ok-place.ensures.stops c.in_ok-place.ensures.sweeps
    c.in-Tries.is).1

pub at_thread-requires-in-Tries-clause-reached : goal.at_thread-requires-in-Tries-clause-reached
at_thread-requires-in-Tries-clause-reached c =
    (tries_here c.args.program.now (seen (levels_of c.args.view.now)) c.args.state _ _ _
    c.requires.part c.requires.sought c.in_ok-place.ensures.stops c.in_ok-place.ensures.sweeps
    c.in-Tries.is).0.reached

pub at_thread-requires-in-Tries-clause-left : goal.at_thread-requires-in-Tries-clause-left
at_thread-requires-in-Tries-clause-left c =
    (tries_here c.args.program.now (seen (levels_of c.args.view.now)) c.args.state _ _ _
    c.requires.part c.requires.sought c.in_ok-place.ensures.stops c.in_ok-place.ensures.sweeps
    c.in-Tries.is).0.left

pub returns-in-Tries : goal.returns-in-Tries
returns-in-Tries c =
    let here = tries_here c.args.program.now (seen (levels_of c.args.view.now)) c.args.state _ _ _
    c.requires.part c.requires.sought c.in_ok-place.ensures.stops c.in_ok-place.ensures.sweeps
    c.in-Tries.is in
    subst (λ t. IfOk c.at_thread-in-Tries.result (Follows (seen (levels_of c.args.view.now)) t))
    here.0.same c.at_thread-in-Tries.ensures

-- ---- elsewhere

pub returns-in_ok-form-in-Groups : goal.returns-in_ok-form-in-Groups
returns-in_ok-form-in-Groups c =
    gathered (seen (levels_of c.args.view.now)) c.args.state _ _ _ _
    c.requires.sought c.in_ok-place.ensures.stops c.in_ok-place.ensures.sweeps c.in-Groups.is
    (c.in_ok-form-in-Groups.ensures ∙ c.in_ok-group-in-Groups.ensures)

pub unreachable-requires : goal.unreachable-requires
unreachable-requires c =
    never_odd c.args.program.now c.requires.written (whole c.args.state) _ _ c.requires.part
    (stopped c.args.state _ _ _ c.in_ok-place.ensures.stops c.in-Odd.is)

pub out_of-requires : goal.out_of-requires
out_of-requires c =
    (ended (seen (levels_of c.args.view.now)) c.args.state _ _ c.requires.sought
    c.in_ok-place.ensures.stops c.in_ok-place.ensures.sweeps c.in-Ends.is).0

pub returns-in-Ends : goal.returns-in-Ends
returns-in-Ends c =
    subst (λ t. Follows (seen (levels_of c.args.view.now)) t c.out_of.result)
    (ended (seen (levels_of c.args.view.now)) c.args.state _ _ c.requires.sought
    c.in_ok-place.ensures.stops c.in_ok-place.ensures.sweeps c.in-Ends.is).1 c.out_of.ensures
