use Rattle.fort_store_effects.specs.Levels.{levels_of, seen}
use Rattle.fort_walk_law_course.specs.Course.{is_inner}
use Rattle.fort_frames_moves.specs.Turns.{ready_term}
use Rattle.fort_walk_course.specs.Courses.{around}
use Rattle.fort_walk_turns.proofs.Past.{stuck_left, stuck_none}
use Rattle.fort_walk_turns.proofs.threads.stays.Goals as goal

pub left-requires : goal.left-requires
left-requires c =
    stuck_left c.args.program.now c.args.course c.args.sweep c.met_stuck.result c.args.place
    (ready_term c.args.ready) c.in_ok-term.field-0 c.requires.thread
    (stuck_none c.args.program.now (is_inner (around c.args.course))
    (seen (levels_of c.args.course.layers)) c.args.ready c.requires.made c.requires.stuck)
    c.met_stuck.ensures.wakes c.met_stuck.ensures.stuck c.met_stuck.ensures.idle
    c.in_ok-term.ensures
