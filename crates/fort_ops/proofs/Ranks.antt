-- The rank falls along each pair, so no way along the pairs is a round.
use Rattle.std.proofs.Common.{◌<◌, arith}
use Rattle.fort_ops.specs.declared.precedence.Group.{Group}
use Rattle.fort_ops.specs.declared.precedence.Group.TheVariants.{Adjacent, Product, Sum, Bits, Span, Relation, Conjunction, Disjunction}
use Rattle.fort_ops.specs.Precedence.{rank, RankFalls, Path, one, more, HasNoCycle}

pub rank_falls : RankFalls
rank_falls Adjacent Sum e = omega arith
rank_falls Adjacent Span e = omega arith
rank_falls Adjacent Relation e = omega arith
rank_falls Product Sum e = omega arith
rank_falls Product Span e = omega arith
rank_falls Product Relation e = omega arith
rank_falls Sum Span e = omega arith
rank_falls Sum Relation e = omega arith
rank_falls Bits Relation e = omega arith
rank_falls Relation Conjunction e = omega arith
rank_falls Relation Disjunction e = omega arith
rank_falls Conjunction Disjunction e = omega arith
rank_falls _ _ e = absurd (cc e)

path_falls : (a b : Group) → Path a b → rank b < rank a
path_falls a b (one _ _ e) = rank_falls a b e
path_falls a b (more _ c _ e p) = omega (arith, rank_falls a c e, path_falls c b p)

pub no_cycle : HasNoCycle
no_cycle g p = omega (arith, path_falls g g p)
