use Rattle.std.proofs.Common.{◌≡◌, false, true, refl}
use Rattle.std.proofs.lemmas.Option.{slice_get-get_or}
use Rattle.fort_meet.proofs.Numbers.{highest_more, highest_same}
use Rattle.fort_meet.proofs.meeting.highest.Goals as goal

pub loop-m-preserved-then-is_passed : goal.loop-m-preserved-then-is_passed
loop-m-preserved-then-is_passed c =
    highest_same _ _ _ _ _ (slice_get-get_or _ _ _ c.loop-m-test.true)
    (c.if-is_passed.ensures.0 refl) c.loop-m.invariant

pub loop-m-preserved : goal.loop-m-preserved
loop-m-preserved c =
    highest_more _ _ _ _ _ _ (slice_get-get_or _ _ _ c.loop-m-test.true) (λ p. let f : false
    ≡ true = c.if-is_passed.ensures.1 p in cc) c.in_ok-push.ensures.ok c.loop-m.invariant
