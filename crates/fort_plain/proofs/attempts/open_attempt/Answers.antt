use Rattle.fort_plain.proofs.Attempting.{attempt_passes, begins}
use Rattle.fort_plain.proofs.Testing.{too_dear}
use Rattle.fort_plain.proofs.attempts.open_attempt.Goals as goal

pub returns-then-not-affords : goal.returns-then-not-affords
returns-then-not-affords c = λ turn within.
    attempt_passes c.args.program.now c.args.course c.args.place c.args.form.now turn within
    c.requires.stands c.requires.ready
    (too_dear c.args.course.spent 1 c.args.course.fuel c.affords.result c.affords.ensures
    c.if-not-affords.true)

pub returns : goal.returns
returns c = λ turn within.
    begins c.args.program.now c.args.course c.args.place within _ c.in_ok-begin.ensures.going
    c.in_ok-begin.ensures.fuel c.in_ok-begin.ensures.picks
