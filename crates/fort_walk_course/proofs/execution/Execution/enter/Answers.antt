use Rattle.fort_walk_course.proofs.Trying.{enter_stands}
use Rattle.fort_walk_course.proofs.execution.Execution.enter.Goals as goal

pub returns-clause-going : goal.returns-clause-going
returns-clause-going c =
    enter_stands c.args.program.now c.args.self c.in_ok-course.course c.args.place
    c.root-place.result c.args.tried.form c.args.tried.mode c.args.tried.body
    c.in_ok-share.field-0 c.args.turn c.requires.may c.requires.affords c.root-place.ensures
    c.in_ok-course.ensures c.in_ok-share.ensures
