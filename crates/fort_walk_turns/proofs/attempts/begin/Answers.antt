use Rattle.std.proofs.Common.{refl}
use Rattle.fort_frames.specs.States.{term_at}
use Rattle.fort_walk_turns.proofs.Begins.{sweep_begins, not_waking}
use Rattle.fort_walk_turns.proofs.Growing.{begun_grows, ends_stood}
use Rattle.fort_walk_turns.proofs.attempts.begin.Goals as goal

pub end_at_attempt-requires-clause-may : goal.end_at_attempt-requires-clause-may
end_at_attempt-requires-clause-may c = c.requires.may.0

pub returns-clause-follows : goal.returns-clause-follows
returns-clause-follows c = (
  sweep_begins c.args.program.now c.in_ok-going.going c.new-sweep.result c.in_ok-going.ensures.going
      c.in_ok-going.ensures.whole c.new-sweep.ensures.stuck
      (not_waking c.in_ok-going.going.course c.new-sweep.result _ c.new-sweep.ensures.wakes),
  c.in_ok-going.ensures.begins.fuel,
)

pub returns-then-not-affords-clause-grows : goal.returns-then-not-affords-clause-grows
returns-then-not-affords-clause-grows c =
    let may = c.requires.may.0 in
    ends_stood c.args.program.now c.args.course c.args.course.fuel c.args.place may.form
    c.in_ok-ran.ran may.stands c.in_ok-ran.ensures.run c.in_ok-ran.ensures.picks

pub returns-clause-grows : goal.returns-clause-grows
returns-clause-grows c =
    let may = c.requires.may.0 in
    let going = c.in_ok-going.going in
    let begins = c.in_ok-going.ensures.begins in
    begun_grows c.args.program.now c.args.course going.course c.args.place going.state.place
    may.form (term_at going.state.«at») _ may.stands c.in_ok-going.ensures.going begins.outer refl
