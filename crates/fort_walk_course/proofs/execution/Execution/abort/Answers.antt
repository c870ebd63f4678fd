use Rattle.std.proofs.lemmas.Result.{IfOk-weaker}
use Rattle.fort_walk_course.proofs.Trying.{aborts_come, going_still, stop_picks, stops_within}
use Rattle.fort_walk_course.proofs.execution.Execution.abort.Goals as goal

pub stop-requires-clause-spent : goal.stop-requires-clause-spent
stop-requires-clause-spent c = c.requires.may.stands.is_spent

pub aborted-requires-clause-inside : goal.aborted-requires-clause-inside
aborted-requires-clause-inside c =
    stops_within c.args.program.now c.args.self c.in_ok-course.course c.args.place.now
    c.requires.may c.in_ok-course.ensures

pub aborted-requires-clause-come : goal.aborted-requires-clause-come
aborted-requires-clause-come c =
    aborts_come c.args.program.now c.args.self c.in_ok-course.course c.args.place.now c.requires.may
    c.requires.affords c.in_ok-course.ensures

pub returns-clause-going : goal.returns-clause-going
returns-clause-going c =
    IfOk-weaker c.aborted.result _ _
    (λ o h. going_still c.args.program.now c.args.self c.in_ok-course.course o
    c.in_ok-course.ensures.outer h) c.aborted.ensures.going

pub returns-clause-picks : goal.returns-clause-picks
returns-clause-picks c =
    IfOk-weaker c.aborted.result _ _
    (λ o h. stop_picks c.args.self c.in_ok-course.course c.args.place.now o c.in_ok-course.ensures
    h) c.aborted.ensures.picks
