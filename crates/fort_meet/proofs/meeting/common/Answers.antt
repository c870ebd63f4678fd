use Rattle.std.proofs.Common.{◌≡◌, false, true, refl, subst, length, arith}
use Rattle.fort_meet.specs.Rows.{IsInBoth, Lists}
use Rattle.fort_meet.proofs.Numbers.{lists_more, lists_same}
use Rattle.fort_meet.proofs.meeting.common.Goals as goal

pub loop-m-preserved-then-not-is_in_both : goal.loop-m-preserved-then-not-is_in_both
loop-m-preserved-then-not-is_in_both c =
    lists_same _ _ _ (λ p. let f : false ≡ true = c.if-not-is_in_both.ensures.1 p
    in cc) c.loop-m.invariant

pub loop-m-preserved : goal.loop-m-preserved
loop-m-preserved c =
    lists_more _ _ _ _ _ refl c.in_ok-push.ensures.ok (c.if-not-is_in_both.ensures.0 refl)
    c.loop-m.invariant

pub returns : goal.returns
returns c =
    let e : c.loop-m.m ≡ length c.args.rows.now = omega arith
    in subst (λ z. Lists (IsInBoth c.args.rows.now c.args.a.0 c.args.b.0) z c.loop-m.list) e
    c.loop-m.invariant
