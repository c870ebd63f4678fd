use Rattle.fort_store_effects.specs.Levels.{levels_of, seen}
use Rattle.fort_machine.specs.Attempts.{Sleeps}
use Rattle.fort_walk_turns.proofs.Trying.{rests_by, rests_tried}
use Rattle.fort_walk_turns.proofs.attempts.rests.Goals as goal

pub returns-then-sweep : goal.returns-then-sweep
returns-then-sweep c =
    rests_tried c.args.sweep.wakes
    (Sleeps (seen (levels_of c.args.course.now.layers)) c.args.form.now) c.if-sweep.true

pub returns : goal.returns
returns c =
    rests_by c.sleeps.result c.args.sweep.wakes
    (Sleeps (seen (levels_of c.args.course.now.layers)) c.args.form.now) c.sleeps.ensures
    c.if-sweep.false
