use Rattle.fort_ops.proofs.spellings.operator_in.Goals as goal
use Rattle.fort_ops.proofs.Words.{one_more, answered, unanswered}

pub returns-then-eq : goal.returns-then-eq
returns-then-eq c =
    answered _ _ _ _ _ c.utf8.text c.requires c.loop-spelling-test.true c.eq.ensures c.if-eq.true

pub loop-spelling-preserved : goal.loop-spelling-preserved
loop-spelling-preserved c =
    one_more _ _ _ _ _ c.loop-spelling-test.true c.eq.ensures c.if-eq.false
    c.loop-spelling.invariant

pub returns : goal.returns
returns c =
    unanswered _ _ _ c.utf8.text c.requires c.loop-spelling-test.false c.loop-spelling.invariant
