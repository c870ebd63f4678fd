use Rattle.std.proofs.Common.{◌∙◌, sym, subst}
use Rattle.fort_core.specs.declared.term.Term.{Term}
use Rattle.fort_walk_turns.specs.Idles.{IsAtPlace}
use Rattle.fort_walk.proofs.Moving.{steps_at, groups_at, tries_at, ends_at, odd_at}
use Rattle.fort_walk.proofs.walking.go.Goals as goal

pub moved-requires : goal.moved-requires
moved-requires c = rw c.clock.ensures c.requires.walking.stands.course.reached

pub at_thread-requires-clause-thread : goal.at_thread-requires-clause-thread
at_thread-requires-clause-thread c =
    (steps_at _ _ _ c.args.walking.going.state _ _ _ c.requires.walking
    (rw c.clock.ensures at c.in_ok-place.ensures.stops) c.in_ok-place.ensures.sweeps
    c.in-Steps.is).0

pub at_thread-requires-clause-made : goal.at_thread-requires-clause-made
at_thread-requires-clause-made c =
    (steps_at _ _ _ c.args.walking.going.state _ _ _ c.requires.walking
    (rw c.clock.ensures at c.in_ok-place.ensures.stops) c.in_ok-place.ensures.sweeps
    c.in-Steps.is).1

pub at_form-requires : goal.at_form-requires
at_form-requires c =
    subst (λ (a : Term). IsAtPlace c.args.tables.now.program.now c.args.walking.going.course
    c.args.walking.sweep c.in-Groups.place a)
    (sym (c.in_ok-form-in-Groups.ensures ∙ c.in_ok-group-in-Groups.ensures))
    (groups_at _ _ _ c.args.walking.going.state _ _ _ c.requires.walking
    (rw c.clock.ensures at c.in_ok-place.ensures.stops) c.in_ok-place.ensures.sweeps
    c.in-Groups.is)

pub at_atomic-requires-clause-form : goal.at_atomic-requires-clause-form
at_atomic-requires-clause-form c =
    (tries_at _ _ _ c.args.walking.going.state _ _ _ c.requires.walking
    (rw c.clock.ensures at c.in_ok-place.ensures.stops) c.in_ok-place.ensures.sweeps
    c.in-Tries.is).0

pub at_atomic-requires-clause-atomic : goal.at_atomic-requires-clause-atomic
at_atomic-requires-clause-atomic c =
    (tries_at _ _ _ c.args.walking.going.state _ _ _ c.requires.walking
    (rw c.clock.ensures at c.in_ok-place.ensures.stops) c.in_ok-place.ensures.sweeps
    c.in-Tries.is).1

pub at_end-requires : goal.at_end-requires
at_end-requires c =
    ends_at _ _ _ c.args.walking.going.state _ _ c.requires.walking
    (rw c.clock.ensures at c.in_ok-place.ensures.stops) c.in_ok-place.ensures.sweeps c.in-Ends.is

pub unreachable-requires : goal.unreachable-requires
unreachable-requires c =
    odd_at _ c.requires.written _ _ c.args.walking.going.state _ _ _ c.requires.walking
    (rw c.clock.ensures at c.in_ok-place.ensures.stops) c.in-Odd.is
