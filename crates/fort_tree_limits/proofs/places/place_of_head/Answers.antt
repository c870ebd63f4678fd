use Rattle.fort_tree.proofs.MeasuresFlats.{measures-Atomic, measures-Big, measures-Fn, measures-Throw, measures-Spawn, measures-Tryatomic}
use Rattle.fort_tree_limits.proofs.places.place_of_head.Goals as goal

pub returns-in-Atomic : goal.returns-in-Atomic
returns-in-Atomic c = rw (c.in-Atomic.is, measures-Atomic)

pub returns-in-Tryatomic : goal.returns-in-Tryatomic
returns-in-Tryatomic c = rw (c.in-Tryatomic.is, measures-Tryatomic)

pub returns-in-Throw : goal.returns-in-Throw
returns-in-Throw c = rw (c.in-Throw.is, measures-Throw)

pub returns-in-Spawn : goal.returns-in-Spawn
returns-in-Spawn c = rw (c.in-Spawn.is, measures-Spawn)

pub returns-in-Fn : goal.returns-in-Fn
returns-in-Fn c = rw (c.in-Fn.is, measures-Fn)

pub returns-in-Big : goal.returns-in-Big
returns-in-Big c = rw (c.in-Big.is, measures-Big) (cc)
