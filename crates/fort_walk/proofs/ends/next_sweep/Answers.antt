use Rattle.std.proofs.Common.{refl}
use Rattle.fort_walk.proofs.Ending.{again_walks, still_awake}
use Rattle.fort_walk_turns.proofs.Growing.{grows_same}
use Rattle.fort_walk.proofs.ends.next_sweep.Goals as goal

pub returns-clause-follows : goal.returns-clause-follows
returns-clause-follows c = (
  again_walks c.args.program.now c.args.course c.args.sweep c.new.result c.root-place.result
      c.args.term c.requires.ends
      (still_awake c.args.sweep.idle c.args.sweep.stuck c.args.sweep.wakes c.requires.more)
      c.new.ensures.stuck c.new.ensures.wakes c.root-place.ensures,
  refl,
)

pub returns-clause-grows : goal.returns-clause-grows
returns-clause-grows c = grows_same c.args.course
