use Rattle.fort_frames_moves.specs.Turns.{ready_term}
use Rattle.fort_walk_turns.proofs.Past.{over_left}
use Rattle.fort_walk_turns.proofs.Running.{thread_runs}
use Rattle.fort_walk_turns.proofs.threads.at_thread.Goals as goal

pub left-requires : goal.left-requires
left-requires c =
    over_left c.args.tables.now.program.now c.args.course c.args.sweep c.passed.result c.args.place
    (ready_term c.args.ready) c.in_ok-term.field-0 c.requires.thread
    (c.is_over.ensures c.if-is_over.true)
    c.passed.ensures.wakes c.passed.ensures.idle c.in_ok-term.ensures

pub dealt-requires-clause-dealt : goal.dealt-requires-clause-dealt
dealt-requires-clause-dealt c = c.in_ok-deal.ensures

pub acting_by-requires-clause-runs : goal.acting_by-requires-clause-runs
acting_by-requires-clause-runs c =
    thread_runs c.args.tables.now.program.now c.args.course c.args.sweep c.args.place
    (ready_term c.args.ready) c.requires.one c.requires.thread
