use Rattle.std.proofs.Common.{refl}
use Rattle.fort_walk_turns.proofs.Growing.{grows_same}
use Rattle.fort_walk_turns.proofs.next.left.Goals as goal

pub returns-clause-follows : goal.returns-clause-follows
returns-clause-follows c = (c.requires, refl)

pub returns-clause-grows : goal.returns-clause-grows
returns-clause-grows c = grows_same c.args.course
