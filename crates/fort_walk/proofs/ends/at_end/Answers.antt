use Rattle.std.proofs.Common.{subst}
use Rattle.fort_machine.specs.Attempts.{goes}
use Rattle.fort_frames.specs.States.{term_at}
use Rattle.fort_walk_course.specs.Courses.{HasCome}
use Rattle.fort_walk_turns.specs.Idles.{IsAtEndOf}
use Rattle.fort_walk.proofs.ends.at_end.Goals as goal

pub at_value-requires : goal.at_value-requires
at_value-requires c =
    subst (λ a. HasCome c.args.program.now c.args.course (goes (term_at a))) c.in-Value.is
    c.requires.come

pub at_throw-requires : goal.at_throw-requires
at_throw-requires c =
    subst (λ a. HasCome c.args.program.now c.args.course (goes (term_at a))) c.in-Throw.is
    c.requires.come

pub again-requires : goal.again-requires
again-requires c =
    subst (λ a. IsAtEndOf c.args.program.now c.args.course c.args.sweep a) c.in-Left.is c.requires

pub goes_in-requires : goal.goes_in-requires
goes_in-requires c =
    subst (λ a. HasCome c.args.program.now c.args.course (goes (term_at a))) c.in-Form.is
    c.requires.come
