use Rattle.std.proofs.Common.{◌≡◌, false, true, refl, arith}
use Rattle.std.proofs.lemmas.Option.{slice_get_read}
use Rattle.fort_over_pair.proofs.Covered.{none_covers_more, none_covers_all}
use Rattle.fort_over_pair.proofs.covering.is_covered.Goals as goal

pub returns-then-covers : goal.returns-then-covers
returns-then-covers c h k = (
  λ _. let w = (c.if-covers.ensures h k).0 refl in (
    c.loop-other.other-index,
    c.other-item.result,
    slice_get_read _ _ _ _ refl c.loop-other-test.true c.other-item.is,
    w.0,
    w.1,
    w.2,
  ),
  λ _. refl,
)

pub loop-other-preserved : goal.loop-other-preserved
loop-other-preserved c =
    none_covers_more c.args.table.now c.args.members.now c.args.first.now c.args.second.now
    c.args.types.now c.other-item.result c.loop-other.other-index
    (slice_get_read _ _ _ _ refl c.loop-other-test.true c.other-item.is) (λ h k w. let f : false
    ≡ true = (c.if-covers.ensures h k).1 w in cc) c.loop-other.invariant

pub returns : goal.returns
returns c h k = (
  λ e. absurd (let f : false ≡ true = e in cc),
  λ w. absurd
      (none_covers_all c.args.table.now c.args.members.now c.args.first.now c.args.second.now
      c.args.types.now c.loop-other.other-index h k (omega arith) c.loop-other.invariant w),
)
