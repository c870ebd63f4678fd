use Rattle.std.proofs.Common.{◌≡◌, ◌<◌, true, false, refl, arith, length}
use Rattle.std.proofs.lemmas.Option.{slice_get_read}
use Rattle.fort_types.proofs.Arms.{all_below, arrow_by_domain, arrow_by_result, one_not_below, below_more}
use Rattle.fort_types.proofs.terms.+below.Goals as goal

pub layer_below-returns-then-layer_below : goal.layer_below-returns-then-layer_below
layer_below-returns-then-layer_below t c h k =
    arrow_by_result _ _ _ _ _ _ _ _ _ _ _ _ _ c.in-Arrow-Arrow.is-0 c.in-Arrow-Arrow.is-1
    c.get.ensures c.get-then-layer_below.ensures c.get-in-Arrow-Arrow.ensures
    c.get-then-layer_below-2.ensures
    ((c.if-layer_below.ensures h k).0 refl) (c.layer_below-then-layer_below.ensures h k)

pub layer_below-returns-else-layer_below : goal.layer_below-returns-else-layer_below
layer_below-returns-else-layer_below t c h k =
    arrow_by_domain _ _ _ _ _ _ _ _ _ _ _ c.if-layer_below.false c.in-Arrow-Arrow.is-0
    c.in-Arrow-Arrow.is-1
    c.get.ensures c.get-in-Arrow-Arrow.ensures (λ v. let f = (c.layer_below.ensures h k).1 v
    in let g = c.if-layer_below.false in cc)

pub parts_below-returns-then-not-layer_below : goal.parts_below-returns-then-not-layer_below
parts_below-returns-then-not-layer_below t c h k =
    let i : c.loop-i.i < length c.as_slice-left.result.now = omega arith in
    let j : c.loop-i.i < length c.as_slice-right.result.now = omega arith in (
      λ e. let f : false ≡ true = e in absurd cc,
      λ w. absurd (one_not_below _ _ _ _ _ _ _ _ _ c.as_slice-left.ensures c.as_slice-right.ensures
          (slice_get_read _ _ _ _ refl i c.index-left-i.is)
          (slice_get_read _ _ _ _ refl j c.index-right-i.is)
          (λ v. let f : false ≡ true = (c.if-not-layer_below.ensures h k).1 v in cc) w),
    )

pub parts_below-loop-i-preserved : goal.parts_below-loop-i-preserved
parts_below-loop-i-preserved t c =
    let i : c.loop-i.i < length c.as_slice-left.result.now = omega arith in
    let j : c.loop-i.i < length c.as_slice-right.result.now = omega arith in
    record {
      long = c.loop-i.invariant.long;
      each = below_more _ _ _ _ _ _ _ (slice_get_read _ _ _ _ refl i c.index-left-i.is)
          (slice_get_read _ _ _ _ refl j c.index-right-i.is)
          (λ h k. (c.if-not-layer_below.ensures h k).0 refl) c.loop-i.invariant.each;
    }

pub parts_below-returns : goal.parts_below-returns
parts_below-returns t c h k = (
  λ _. all_below _ _ _ _ _ _ _ _ k c.as_slice-left.ensures c.as_slice-right.ensures
      c.loop-i.invariant.long (omega arith) c.loop-i.invariant.each,
  λ _. refl,
)
