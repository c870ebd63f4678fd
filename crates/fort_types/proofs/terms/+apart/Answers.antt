use Rattle.std.proofs.Common.{◌≡◌, ◌<◌, true, false, refl, arith, length}
use Rattle.std.proofs.lemmas.Option.{slice_get_read}
use Rattle.fort_types.proofs.Arms.{some_differ, none_differ, none_more}
use Rattle.fort_types.proofs.terms.+apart.Goals as goal

pub parts_apart-returns-then-layer_apart : goal.parts_apart-returns-then-layer_apart
parts_apart-returns-then-layer_apart t c h k =
    let i : c.loop-i.i < length c.as_slice-left.result.now = omega arith in
    let j : c.loop-i.i < length c.as_slice-right.result.now = omega arith in (
      λ _. some_differ _ _ _ _ _ _ _ _ c.as_slice-left.ensures c.as_slice-right.ensures
          c.loop-i.invariant.long
          (slice_get_read _ _ _ _ refl i c.index-left-i.is)
          (slice_get_read _ _ _ _ refl j c.index-right-i.is)
          ((c.if-layer_apart.ensures h k).0 refl),
      λ _. refl,
    )

pub parts_apart-loop-i-preserved : goal.parts_apart-loop-i-preserved
parts_apart-loop-i-preserved t c =
    let i : c.loop-i.i < length c.as_slice-left.result.now = omega arith in
    let j : c.loop-i.i < length c.as_slice-right.result.now = omega arith in
    record {
      long = c.loop-i.invariant.long;
      none = none_more _ _ _ _ _ _ (slice_get_read _ _ _ _ refl i c.index-left-i.is)
          (slice_get_read _ _ _ _ refl j c.index-right-i.is)
          (λ h k w. let f : false ≡ true = (c.if-layer_apart.ensures h k).1 w
          in cc) c.loop-i.invariant.none;
    }

pub parts_apart-returns : goal.parts_apart-returns
parts_apart-returns t c h k = (
  λ e. let f : false ≡ true = e in absurd cc,
  λ d. absurd
      (none_differ _ _ _ _ _ _ _ k c.as_slice-left.ensures c.as_slice-right.ensures
      c.loop-i.invariant.long (omega arith) c.loop-i.invariant.none d),
)
