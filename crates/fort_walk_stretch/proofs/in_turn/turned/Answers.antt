use Rattle.std.proofs.Common.{refl, ◌∙◌}
use Rattle.fort_store_effects.specs.Levels.{levels_of, seen}
use Rattle.fort_walk_stretch.proofs.Stopping.{end_on, group_on, odd_on, step_of, step_on, try_on}
use Rattle.fort_walk_stretch.proofs.in_turn.turned.Goals as goal

pub moved-requires : goal.moved-requires
moved-requires c = c.requires.on.stage.reached

pub at_thread-requires-clause-on : goal.at_thread-requires-clause-on
at_thread-requires-clause-on c =
    step_on c.args.tables.now.program.now c.args.inner (seen (levels_of c.args.view.now))
    c.args.room c.args.stretch c.args.state _ _ _ c.requires.on c.in_ok-place.ensures.stops
    c.in-Steps.is

pub at_thread-requires-clause-thread : goal.at_thread-requires-clause-thread
at_thread-requires-clause-thread c =
    let k = step_of c.args.stretch c.args.state _ _ _ c.in_ok-place.ensures.stops c.in-Steps.is in
    k.thread.ready

pub at_thread-requires-clause-made : goal.at_thread-requires-clause-made
at_thread-requires-clause-made c =
    (step_of c.args.stretch c.args.state _ _ _ c.in_ok-place.ensures.stops c.in-Steps.is).made

pub returns-in_ok-form-in-Groups : goal.returns-in_ok-form-in-Groups
returns-in_ok-form-in-Groups c = (
  group_on c.args.tables.now.program.now c.args.inner (seen (levels_of c.args.view.now))
      c.args.room c.args.stretch c.args.state _ _ _ _ c.requires.on c.in_ok-place.ensures.stops
      c.in-Groups.is (c.in_ok-form-in-Groups.ensures ∙ c.in_ok-group-in-Groups.ensures),
  refl,
)

pub left_out-requires : goal.left_out-requires
left_out-requires c =
    try_on c.args.tables.now.program.now c.args.inner (seen (levels_of c.args.view.now))
    c.args.room c.args.stretch c.args.state _ _ _ c.requires.on c.in_ok-place.ensures.stops
    c.in-Tries.is

pub left_out-requires-in-Odd : goal.left_out-requires-in-Odd
left_out-requires-in-Odd c =
    odd_on c.args.tables.now.program.now c.args.inner (seen (levels_of c.args.view.now))
    c.args.room c.args.stretch c.args.state _ _ _ c.requires.on c.in_ok-place.ensures.stops
    c.in-Odd.is

pub ended-requires : goal.ended-requires
ended-requires c =
    end_on c.args.tables.now.program.now c.args.inner (seen (levels_of c.args.view.now))
    c.args.room c.args.stretch c.args.state _ _ c.requires.on c.in_ok-place.ensures.stops
    c.in-Ends.is
