use Rattle.fort_store_effects.specs.Levels.{levels_of, seen}
use Rattle.fort_walk_turns.proofs.Watched.{there_sleeps, sleeps_there}
use Rattle.fort_walk_turns.proofs.attempts.sleeps.Goals as goal

pub returns-in-Asleep : goal.returns-in-Asleep
returns-in-Asleep c = (
  λ e. there_sleeps (seen (levels_of c.args.course.now.layers)) c.args.form.now c.in-Asleep.marks
      c.in-Asleep.field-1 c.in-Asleep.is (c.unchanged.ensures.0 e),
  λ h. c.unchanged.ensures.1
      (sleeps_there (seen (levels_of c.args.course.now.layers)) c.args.form.now c.in-Asleep.marks
      c.in-Asleep.field-1 c.in-Asleep.is h),
)
