use Rattle.std.proofs.Common.{◌≡◌, false, true, refl}
use Rattle.fort_over.proofs.Lists.{at_item}
use Rattle.fort_over.proofs.CoverLaws.{none_covers, none_covers_more, none_covered}
use Rattle.fort_over.proofs.covering.some_covers.Goals as goal

pub loop-member-init : goal.loop-member-init
loop-member-init c =
    none_covers c.args.table.now c.args.members.now c.args.asked.now c.args.at c.args.object.now

pub returns-then-covers : goal.returns-then-covers
returns-then-covers c = λ h t. (
  λ _. (
    c.loop-member.member-index,
    c.member-item.result,
    at_item _ _ _ _ refl c.loop-member-test.true c.member-item.is,
    (c.if-covers.ensures h t).0 refl,
  ),
  λ _. refl,
)

pub loop-member-preserved : goal.loop-member-preserved
loop-member-preserved c =
    none_covers_more _ _ _ _ _ _ _ (at_item _ _ _ _ refl c.loop-member-test.true c.member-item.is)
    (λ h t w. let f : false ≡ true = (c.if-covers.ensures h t).1 w in cc) c.loop-member.invariant

pub returns : goal.returns
returns c = λ h t. (
  λ e. let f : false ≡ true = e in absurd cc,
  λ w. absurd (none_covered h _ _ _ _ _ _ t c.loop-member-test.false c.loop-member.invariant w),
)
