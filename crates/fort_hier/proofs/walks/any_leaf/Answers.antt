use Rattle.std.proofs.Common.{◌≡◌, false, true, arith, below_more}
use Rattle.fort_hier.proofs.walks.any_leaf.Goals as goal

pub loop-b-preserved : goal.loop-b-preserved
loop-b-preserved c =
    below_more _ _ c.loop-b.invariant (λ p. let f : false ≡ true = c.if-is_leaf.ensures.1 p in cc)

pub returns : goal.returns
returns c = (
  λ e. let f : false ≡ true = e
      in absurd cc,
  λ w. absurd (c.loop-b.invariant w.0 (let l = w.1 in omega arith) w.2),
)
