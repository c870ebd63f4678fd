use Rattle.std.proofs.Common.{◌≡◌, false, true, arith}
use Rattle.fort_over_pair.proofs.Covered.{covers_moved}
use Rattle.fort_over_pair.proofs.Judged.{meetless, too_wide_at, uncovered, covered}
use Rattle.fort_over_pair.proofs.judging.by_meets.Goals as goal

pub returns-then-count-eq0 : goal.returns-then-count-eq0
returns-then-count-eq0 c h s k =
    meetless h c.args.set.now c.args.first.now c.args.second.now c.requires.alike
    c.in_ok-count.count (c.in_ok-count.ensures h s k)
    (λ w. let f : false ≡ true = (c.if-arrows_clash.ensures h k).1 w in cc) c.if-count-eq0.true

pub returns-then-count-ge-TOO_MANY : goal.returns-then-count-ge-TOO_MANY
returns-then-count-ge-TOO_MANY c h s k =
    too_wide_at h c.args.set.now c.args.first.now c.args.second.now c.requires.alike
    c.in_ok-count.count (c.in_ok-count.ensures h s k)
    (λ w. let f : false ≡ true = (c.if-arrows_clash.ensures h k).1 w
    in cc) c.if-count-eq0.false c.if-count-ge-TOO_MANY.true

pub returns-then-not-all_covered : goal.returns-then-not-all_covered
returns-then-not-all_covered c h s k =
    uncovered h c.args.set.now c.args.first.now c.args.second.now c.requires.alike
    c.in_ok-count.count (c.in_ok-count.ensures h s k)
    (λ w. let f : false ≡ true = (c.if-arrows_clash.ensures h k).1 w
    in cc) c.if-count-eq0.false (λ l. let m = c.if-count-ge-TOO_MANY.false in omega arith)
    c.in_ok-choices.choices (c.in_ok-choices.ensures h s k)
    (covers_moved h _ _ _ _ _ _ _ c.as_slice.ensures c.as_slice-2.ensures
    (c.if-not-all_covered.ensures h k))

pub returns : goal.returns
returns c h s k =
    covered h c.args.set.now c.args.first.now c.args.second.now c.requires.alike c.in_ok-count.count
    (c.in_ok-count.ensures h s k)
    (λ w. let f : false ≡ true = (c.if-arrows_clash.ensures h k).1 w
    in cc) c.if-count-eq0.false (λ l. let m = c.if-count-ge-TOO_MANY.false in omega arith)
    c.in_ok-choices.choices (c.in_ok-choices.ensures h s k)
    (covers_moved h _ _ _ _ _ _ _ c.as_slice.ensures c.as_slice-2.ensures
    (c.if-not-all_covered.ensures h k))
