use Rattle.std.proofs.Common.{None}
use Rattle.fort_walk_course.proofs.Trying.{begin_picks, begin_stands}
use Rattle.fort_walk_course.proofs.execution.Execution.begin.Goals as goal

pub returns-clause-going : goal.returns-clause-going
returns-clause-going c =
    begin_stands c.args.program.now c.args.self c.in_ok-course.course c.args.place
    c.root-place.result None c.args.mode c.args.body c.in_ok-share.field-0 _ c.requires.may tt
    c.requires.affords c.root-place.ensures c.in_ok-course.ensures c.in_ok-share.ensures

pub returns-clause-picks : goal.returns-clause-picks
returns-clause-picks c =
    begin_picks c.args.self c.in_ok-course.course c.args.place None c.args.mode c.args.body _
    c.in_ok-course.ensures
