use Rattle.std.proofs.Common.{refl}
use Rattle.fort_walk_turns.proofs.Past.{picked_form}
use Rattle.fort_walk_turns.proofs.Growing.{grows_same}
use Rattle.fort_walk_turns.proofs.next.closed.Goals as goal

pub returns-clause-follows : goal.returns-clause-follows
returns-clause-follows c = (
  picked_form _ _ _ _ _ _ c.requires c.picked-sweep.ensures.idle c.picked-sweep.ensures.wakes,
  refl,
)

pub returns-clause-grows : goal.returns-clause-grows
returns-clause-grows c = grows_same c.args.going.course
