use Rattle.std.proofs.Common.{refl}
use Rattle.fort_types.proofs.Pairs.{stands, any_found, list_found}
use Rattle.fort_types.proofs.parting.parted.Goals as goal

-- src/parting.rt:32:9
pub returns-then-any : goal.returns-then-any
returns-then-any c = (
  λ _. any_found _ _ _ _ c.index-types-a.result c.as_slice.result.now c.requires.sized
      (stands c.args.types.now c.args.a c.index-types-a.result c.requires.row c.index-types-a.is)
      c.as_slice.ensures (c.any.ensures.0 c.if-any.true),
  λ _. refl,
)

-- src/parting.rt:13:1
pub returns : goal.returns
returns c =
    list_found _ _ _ _ c.index-types-a.result c.as_slice.result.now _ c.requires.sized
    (stands c.args.types.now c.args.a c.index-types-a.result c.requires.row c.index-types-a.is)
    c.as_slice.ensures
    (λ t. let f = c.if-at.false in let e = c.at.ensures in absurd cc)
    (λ w. let t = c.excluding.ensures.1 w in let f = c.if-excluding.false in absurd cc)
    (λ w. let t = c.leaf_apart.ensures.1 w in let f = c.if-leaf_apart.false in absurd cc)
    (λ w. let t = c.any.ensures.1 w in let f = c.if-any.false in absurd cc)
    c.list_apart.ensures
