use Rattle.std.proofs.Common.{sym, ap, ◌∙◌}
use Rattle.std.specs.Prelude.{Some}
use Rattle.fort_store_effects.specs.Levels.{levels_of, seen}
use Rattle.fort_walk_law_course.specs.Course.{is_inner}
use Rattle.fort_frames_moves.specs.Turns.{ready_term}
use Rattle.fort_walk_course.specs.Courses.{around}
use Rattle.fort_step_deal.specs.Deals.{next_by}
use Rattle.fort_walk_turns.proofs.Past.{stuck_left, asks_none}
use Rattle.fort_walk_turns.proofs.Taking.{asks_on}
use Rattle.fort_walk_turns.proofs.threads.asks.Goals as goal

pub left-requires : goal.left-requires
left-requires c =
    stuck_left c.args.program.now c.args.course c.args.sweep c.met_stuck.result c.args.place
    (ready_term c.args.ready) c.in_ok-term-in-None.field-0 c.requires.thread
    (asks_none c.args.program.now (is_inner (around c.args.course))
    (seen (levels_of c.args.course.layers)) c.args.ready c.args.loc.0
    (λ v. next_by c.args.goes v) c.requires.made c.requires.only
    (sym c.in-None.ensures))
    c.met_stuck.ensures.wakes c.met_stuck.ensures.stuck c.met_stuck.ensures.idle
    c.in_ok-term-in-None.ensures

pub reads-requires-clause-may : goal.reads-requires-clause-may
reads-requires-clause-may c = λ next is.
    asks_on c.args.program.now c.args.course c.args.place (ready_term c.args.ready) c.args.loc.0
    (λ v. next_by c.args.goes v) c.in_ok-value-in-Some.value next c.requires.thread.0.stands
    c.requires.acts is

pub reads-requires-clause-there : goal.reads-requires-clause-there
reads-requires-clause-there c = sym c.in-Some.ensures ∙ ap Some (sym c.in_ok-value-in-Some.ensures)
