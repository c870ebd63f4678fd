use Rattle.std.proofs.Common.{◌≡◌, ◌<◌, true, false, refl, arith, length}
use Rattle.std.proofs.lemmas.Option.{slice_get_read}
use Rattle.fort_over_pair.proofs.Counted.{counted_more, lesser_counted, greater_counted}
use Rattle.fort_over_pair.proofs.Results.{layer_count_result}
use Rattle.fort_over_pair.proofs.counting.+count.Goals as goal

pub count_choices-loop-i-preserved : goal.count_choices-loop-i-preserved
count_choices-loop-i-preserved t c =
    let i : c.loop-i.i < length c.args.left.now = omega arith in
    let j : c.loop-i.i < length c.args.right.now = (let l = c.requires.alike in omega arith) in
    record {
      few = c.times-all.ensures.few;
      counts = counted_more _ _ _ _ _ _ _ _ _ (slice_get_read _ _ _ _ refl i c.index-left-i.is)
          (slice_get_read _ _ _ _ refl j c.index-right-i.is)
          c.in_ok-count_meets.ensures.ok c.times-all.ensures.ok c.loop-i.invariant.counts;
    }

pub count_meets-returns-then-below-clause-ok : goal.count_meets-returns-then-below-clause-ok
count_meets-returns-then-below-clause-ok t c h s k =
    lesser_counted h s _ _ ((c.if-below.ensures h k).0 refl)

pub count_meets-returns-then-below-2-clause-ok : goal.count_meets-returns-then-below-2-clause-ok
count_meets-returns-then-below-2-clause-ok t c h s k =
    greater_counted h s _ _ ((c.if-below-2.ensures h k).0 refl)

pub count_meets-returns-clause-ok : goal.count_meets-returns-clause-ok
count_meets-returns-clause-ok t c =
    layer_count_result _ _ _ _ (λ h k w. let f : false ≡ true = (c.if-below.ensures h k).1 w in cc)
    (λ h k w. let f : false ≡ true = (c.if-below-2.ensures h k).1 w in cc) c.layer_count.ensures.ok
