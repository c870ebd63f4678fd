use Rattle.std.proofs.Common.{arith}
use Rattle.std.specs.Cmp.{booleans_Decides}
use Rattle.fort_juxt.proofs.Steps.{run_more}
use Rattle.fort_juxt.proofs.chunks.run_end.Goals as goal

pub loop-at-preserved : goal.loop-at-preserved
loop-at-preserved c = record {
  ordered = let h = c.loop-at.invariant.ordered in omega arith;
  within = let h = c.loop-at-test.true in omega arith;
  each = run_more c.args.function c.args.elements.now c.args.from c.loop-at.at _
      c.loop-at.invariant.ordered c.loop-at-test.true c.loop-at.invariant.each
      ((booleans_Decides _ _).0 c.if-elements-at.true);
}
