use Rattle.std.proofs.Common.{subst, sym}
use Rattle.fort_store_effects.specs.Levels.{levels_of, seen}
use Rattle.fort_frames_moves.specs.Turns.{ready_term}
use Rattle.fort_walk_stretch.specs.Stretches.{IsOn}
use Rattle.fort_walk_stretch.proofs.Stopping.{full_on}
use Rattle.fort_walk_stretch.proofs.Within.{calls_run}
use Rattle.fort_walk_stretch.proofs.in_turn.at_thread.Goals as goal

pub passed-requires : goal.passed-requires
passed-requires c =
    subst (IsOn c.args.tables.now.program.now c.args.inner (seen (levels_of c.args.view.now))
    c.args.room c.args.stretch c.args.place) (sym c.in_ok-form.ensures) c.requires.on

pub acting_by-requires-clause-runs : goal.acting_by-requires-clause-runs
acting_by-requires-clause-runs c =
    calls_run c.args.tables.now.program.now c.args.inner (seen (levels_of c.args.view.now))
    c.args.room c.args.stretch c.args.place (ready_term c.args.ready) c.requires.on
    c.requires.thread

pub passed-requires-then-wants_room : goal.passed-requires-then-wants_room
passed-requires-then-wants_room c =
    full_on c.args.tables.now.program.now c.args.inner (seen (levels_of c.args.view.now))
    c.args.room c.args.stretch c.args.place (ready_term c.args.ready) _ c.requires.on
    c.in_ok-form-2.ensures

pub take-requires-clause-dealt : goal.take-requires-clause-dealt
take-requires-clause-dealt c = c.in_ok-deal.ensures

pub take-requires-clause-room : goal.take-requires-clause-room
take-requires-clause-room c = c.wants_room.ensures c.if-wants_room.false
