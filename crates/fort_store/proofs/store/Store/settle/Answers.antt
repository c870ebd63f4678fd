use Rattle.std.proofs.Common.{◌∙◌, arith}
use Rattle.fort_store.proofs.store.Store.settle.Goals as goal

pub loop-self-preserved : goal.loop-self-preserved
loop-self-preserved c = (
  c.settle_last.ensures.held ∙ c.loop-self.invariant.0,
  omega (arith, c.settle_last.ensures.kept, c.loop-self.invariant.1),
)

pub returns-in_err-settle_last-clause-held : goal.returns-in_err-settle_last-clause-held
returns-in_err-settle_last-clause-held c =
    c.settle_last.ensures.held ∙ c.loop-self.invariant.0
