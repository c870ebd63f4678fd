use Rattle.std.proofs.Common.{arith}
use Rattle.fort_audit.proofs.Partings.{differ_there, ends_at}
use Rattle.fort_audit.proofs.parting.parting.Goals as goal

pub returns-then-one-at : goal.returns-then-one-at
returns-then-one-at c =
    differ_there c.args.one.now c.args.two.now c.loop-at.at _ _
    (omega (arith, c.loop-at-test.true, c.shorter-shorter.ensures.within.0))
    (omega (arith, c.loop-at-test.true, c.shorter-shorter.ensures.within.1))
    c.loop-at.invariant.shared c.if-one-at.true

pub returns-else-one-two : goal.returns-else-one-two
returns-else-one-two c =
    ends_at c.args.one.now c.args.two.now c.shorter-shorter.result c.loop-at.at c.loop-at-test.false
    c.loop-at.invariant.within
    c.shorter-shorter.ensures.within c.shorter-shorter.ensures.is c.loop-at.invariant.shared
    c.if-one-two.false
