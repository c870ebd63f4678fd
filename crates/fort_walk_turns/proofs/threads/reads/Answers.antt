use Rattle.std.proofs.Common.{refl}
use Rattle.fort_step_deal.specs.Deals.{next_by}
use Rattle.fort_walk_turns.proofs.Taking.{reads_passes, too_dear, follows_by}
use Rattle.fort_walk_turns.proofs.Growing.{step_on}
use Rattle.fort_walk_turns.proofs.threads.reads.Goals as goal

pub out_at-requires : goal.out_at-requires
out_at-requires c =
    let next = next_by c.args.goes c.args.value in
    reads_passes c.args.program.now c.args.course c.args.place next c.args.loc.0 c.args.value
    (c.requires.may next refl) c.requires.there
    (too_dear c.args.course.spent 1 c.args.course.fuel c.affords.result c.affords.ensures
    c.if-not-affords.true)

pub read-requires-clause-may : goal.read-requires-clause-may
read-requires-clause-may c = c.requires.may c.in_ok-next.next c.in_ok-next.ensures

pub returns-clause-follows : goal.returns-clause-follows
returns-clause-follows c =
    follows_by c.args.program.now c.args.course.fuel c.in_ok-course.course.fuel c.picked.result
    c.in_ok-course.ensures.fuel c.picked.ensures.follows

pub returns-clause-grows : goal.returns-clause-grows
returns-clause-grows c =
    let may = (c.requires.may c.in_ok-next.next c.in_ok-next.ensures) in
    step_on c.args.program.now c.args.course c.in_ok-course.course c.args.place may.form
    c.in_ok-next.next 0 c.picked.result may.stands c.in_ok-course.ensures.stands
    c.in_ok-course.ensures.picks c.picked.ensures.grows
