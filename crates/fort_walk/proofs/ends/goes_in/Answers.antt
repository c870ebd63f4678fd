use Rattle.std.proofs.Common.{refl}
use Rattle.fort_walk.proofs.Ending.{goes_in}
use Rattle.fort_walk_turns.proofs.Growing.{grows_same}
use Rattle.fort_walk.proofs.ends.goes_in.Goals as goal

pub returns-clause-follows : goal.returns-clause-follows
returns-clause-follows c = (
  goes_in c.args.program.now c.args.course c.new.result c.root-place.result c.args.term c.requires
      c.new.ensures.stuck c.new.ensures.wakes c.root-place.ensures,
  refl,
)

pub returns-clause-grows : goal.returns-clause-grows
returns-clause-grows c = grows_same c.args.course
