use Rattle.fort_walk_turns.proofs.Growing.{ends_stood}
use Rattle.fort_walk_turns.proofs.threads.out_at.Goals as goal

pub returns-clause-grows : goal.returns-clause-grows
returns-clause-grows c =
    let may = c.requires.may in
    ends_stood c.args.program.now c.args.course c.args.course.fuel c.args.place.now may.form
    c.in_ok-ran.ran may.stands c.in_ok-ran.ensures.run c.in_ok-ran.ensures.picks
