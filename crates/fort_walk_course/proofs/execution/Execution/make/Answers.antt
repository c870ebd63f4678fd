use Rattle.std.proofs.Common.{length}
use Rattle.fort_machine.specs.Effects.{making}
use Rattle.fort_walk_course.proofs.Stepped.{fresh_free}
use Rattle.fort_walk_course.proofs.execution.Execution.make.Goals as goal

pub make_at-requires-clause-free : goal.make_at-requires-clause-free
make_at-requires-clause-free c =
    let a = c.args in
    rw c.fresh.ensures
    (fresh_free a.program.now a.self a.place.now a.self.fresh a.next.now
    (making a.self.fresh a.values.now a.cost) (length a.values.now) c.requires.may)
