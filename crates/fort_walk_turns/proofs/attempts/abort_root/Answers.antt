use Rattle.std.proofs.Common.{[], refl, sym}
use Rattle.fort_store_effects.specs.Levels.{levels_of, seen}
use Rattle.fort_walk_law_course.specs.Course.{is_inner}
use Rattle.fort_frames_moves.specs.Turns.{ready_term}
use Rattle.fort_walk_course.specs.Courses.{around}
use Rattle.fort_walk_turns.proofs.Past.{ends_none, stuck_left}
use Rattle.fort_walk_turns.proofs.Taking.{ends_on, root_is}
use Rattle.fort_walk_turns.proofs.attempts.abort_root.Goals as goal

pub left-requires : goal.left-requires
left-requires c =
    stuck_left c.args.program.now c.args.course c.args.sweep c.met_stuck.result c.args.place
    (ready_term c.args.ready) c.in_ok-term-in-None.field-0 c.requires.thread
    (ends_none c.args.program.now (is_inner (around c.args.course))
    (seen (levels_of c.args.course.layers)) c.args.ready c.requires.made c.requires.only
    (root_is c.args.course c.requires.outside) (sym c.in-None.ensures))
    c.met_stuck.ensures.wakes c.met_stuck.ensures.stuck c.met_stuck.ensures.idle
    c.in_ok-term-in-None.ensures

pub throws-requires : goal.throws-requires
throws-requires c = record {
  may = λ next e. ends_on c.args.program.now c.args.course c.args.place (ready_term c.args.ready)
      next c.in-Some.value [] c.requires.thread.0.stands c.requires.acts c.requires.outside
      (sym c.in-Some.ensures) e refl;
}
