use Rattle.fort_core.proofs.Weighing.{lifts-last, lifts-only}
use Rattle.fort_core.proofs.release.last_of.Goals as goal

pub returns-then-is_empty : goal.returns-then-is_empty
returns-then-is_empty c =
    lifts-only c.args.parts c.pop.new.self c.in-Some.last c.one.result c.in-Some.ensures
    (c.is_empty.ensures.0 c.if-is_empty.true) c.one.ensures

pub returns-else-is_empty : goal.returns-else-is_empty
returns-else-is_empty c =
    lifts-last c.args.parts c.pop.new.self c.in-Some.last c.put.result c.in-Some.ensures
    c.put.ensures
