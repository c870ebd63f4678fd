use Rattle.fort_walk_turns.proofs.Taking.{turns_passes, too_dear, follows_by}
use Rattle.fort_walk_turns.proofs.Growing.{step_on}
use Rattle.fort_walk_turns.proofs.threads.turns.Goals as goal

pub out_at-requires : goal.out_at-requires
out_at-requires c =
    turns_passes c.args.program.now c.args.course c.args.place c.args.next c.args.output c.args.cost
    c.requires.may
    (too_dear c.args.course.spent c.args.cost c.args.course.fuel c.affords.result c.affords.ensures
    c.if-not-affords.true)

pub returns-clause-follows : goal.returns-clause-follows
returns-clause-follows c =
    follows_by c.args.program.now c.args.course.fuel c.in_ok-course.course.fuel c.picked.result
    c.in_ok-course.ensures.fuel c.picked.ensures.follows

pub returns-clause-grows : goal.returns-clause-grows
returns-clause-grows c =
    let may = c.requires.may in
    step_on c.args.program.now c.args.course c.in_ok-course.course c.args.place may.form
    c.args.next 0 c.picked.result may.stands c.in_ok-course.ensures.stands
    c.in_ok-course.ensures.picks c.picked.ensures.grows
