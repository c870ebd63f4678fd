use Rattle.std.proofs.Common.{refl}
use Rattle.fort_walk_course.proofs.Before.{first_stands}
use Rattle.fort_walk_course.proofs.course.Going.first.Goals as goal

pub returns-clause-going : goal.returns-clause-going
returns-clause-going c =
    rw c.in_ok-course.ensures
    (first_stands c.args.program.now _ c.root-place.result c.in_ok-share.field-0
    c.in_ok-share.ensures c.in_ok-of.ensures c.new.ensures c.new-2.ensures refl
    c.root-place.ensures c.fresh_from.ensures)

pub returns-clause-picks : goal.returns-clause-picks
returns-clause-picks c =
    rw c.in_ok-course.ensures (record { picks = c.new.ensures; outer = c.new-2.ensures })
