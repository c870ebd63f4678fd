use Rattle.fort_frames_moves.specs.Turns.{ready_term}
use Rattle.fort_walk_turns.proofs.Trying.{may_abort}
use Rattle.fort_walk_turns.proofs.attempts.abort.Goals as goal

pub abort_attempt-requires-clause-inside : goal.abort_attempt-requires-clause-inside
abort_attempt-requires-clause-inside c = c.in-Some.ensures

pub abort_attempt-requires-clause-may : goal.abort_attempt-requires-clause-may
abort_attempt-requires-clause-may c =
    may_abort c.args.program.now c.args.course c.args.place (ready_term c.args.ready)
    c.requires.thread.0.stands c.requires.acts c.in-Some.ensures

pub abort_root-requires-clause-outside : goal.abort_root-requires-clause-outside
abort_root-requires-clause-outside c = c.in-None.ensures
