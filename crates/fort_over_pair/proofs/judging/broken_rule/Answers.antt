use Rattle.std.proofs.Common.{◌≡◌, false, true, refl}
use Rattle.fort_over_pair.proofs.Judged.{first_lower, second_lower, unordered, judged_result}
use Rattle.fort_over_pair.proofs.judging.broken_rule.Goals as goal

pub returns-then-are_below : goal.returns-then-are_below
returns-then-are_below c h s k n =
    first_lower h c.args.set.now c.args.first.now c.args.second.now (λ e. let f : false ≡ true =
    c.if-are_same.ensures.1 e in cc)
    (λ w. let f : false ≡ true = (c.if-are_apart.ensures h k).1 w
    in cc) ((c.if-are_below.ensures h k).0 refl) c.by_results.result
    (c.by_results.ensures h k)

pub returns-then-are_below-2 : goal.returns-then-are_below-2
returns-then-are_below-2 c h s k n =
    second_lower h c.args.set.now c.args.first.now c.args.second.now (λ e. let f : false ≡ true =
    c.if-are_same.ensures.1 e in cc)
    (λ w. let f : false ≡ true = (c.if-are_apart.ensures h k).1 w
    in cc) ((c.if-are_below-2.ensures h k).0 refl) c.by_results-then-are_below-2.result
    (c.by_results-then-are_below-2.ensures h k)

pub returns : goal.returns
returns c =
    judged_result c.args.table.now c.args.set.now c.args.first.now c.args.second.now
    c.by_meets.result
    (λ h k. unordered h c.args.set.now c.args.first.now c.args.second.now (λ e. let f : false
    ≡ true = c.if-are_same.ensures.1 e in cc)
    (λ w. let f : false ≡ true = (c.if-are_apart.ensures h k).1 w
    in cc) (λ w. let f : false ≡ true = (c.if-are_below.ensures h k).1 w in cc)
    (λ w. let f : false ≡ true = (c.if-are_below-2.ensures h k).1 w
    in cc) (λ w. let f : false ≡ true = (c.if-are_aside.ensures h k).1 w
    in cc)) c.by_meets.ensures
