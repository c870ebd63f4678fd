use Rattle.fort_store_effects.specs.Levels.{levels_of, seen}
use Rattle.fort_walk_law_course.specs.Course.{is_inner}
use Rattle.fort_frames_moves.specs.Turns.{ready_term}
use Rattle.fort_walk_course.specs.Courses.{around}
use Rattle.fort_walk_turns.proofs.Past.{stuck_left, sets_none}
use Rattle.fort_walk_turns.proofs.Taking.{sets_on, some_seen, none_seen}
use Rattle.fort_walk_turns.proofs.threads.sets.Goals as goal

pub left-requires : goal.left-requires
left-requires c =
    stuck_left c.args.program.now c.args.course c.args.sweep c.met_stuck.result c.args.place
    (ready_term c.args.ready) c.in_ok-term.field-0 c.requires.thread
    (sets_none c.args.program.now (is_inner (around c.args.course))
    (seen (levels_of c.args.course.layers)) c.args.ready c.args.loc.0 c.args.value
    c.requires.made c.requires.only
    (none_seen c.look.result (seen (levels_of c.args.course.layers) c.args.loc.0) c.is_none.result
    c.look.ensures c.is_none.ensures c.if-is_none.true))
    c.met_stuck.ensures.wakes c.met_stuck.ensures.stuck c.met_stuck.ensures.idle
    c.in_ok-term.ensures

pub writes-requires-clause-may : goal.writes-requires-clause-may
writes-requires-clause-may c =
    λ next is. sets_on c.args.program.now c.args.course c.args.place (ready_term c.args.ready)
    c.args.loc.0 c.args.value next c.requires.thread.0.stands c.requires.acts is

pub writes-requires-clause-there : goal.writes-requires-clause-there
writes-requires-clause-there c =
    some_seen c.look.result (seen (levels_of c.args.course.layers) c.args.loc.0) c.is_none.result
    c.look.ensures c.is_none.ensures c.if-is_none.false
