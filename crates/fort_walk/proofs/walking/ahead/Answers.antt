use Rattle.std.proofs.Common.{refl}
use Rattle.fort_walk_turns.proofs.Growing.{grows_same}
use Rattle.fort_walk.proofs.walking.ahead.Goals as goal

pub returns-then-got_on-clause-follows : goal.returns-then-got_on-clause-follows
returns-then-got_on-clause-follows c = (c.requires.walking, refl)

pub returns-then-got_on-clause-grows : goal.returns-then-got_on-clause-grows
returns-then-got_on-clause-grows c = grows_same c.args.round.walking.going.course
