use Rattle.std.proofs.Common.{◌≡◌, ◌≤◌, Some, length, false, refl, subst, arith}
use Rattle.std.specs.Prelude.{slice_get, IfOk}
use Rattle.std.proofs.lemmas.Option.{slice_get_read}
use Rattle.std.proofs.lemmas.Result.{IfOk-weaker}
use Rattle.fort_plain.specs.Replays.{EndsAt}
use Rattle.fort_plain.specs.Within.{Takes}
use Rattle.fort_plain.proofs.Replaying.{breaks_here, ends_here, goes_here}
use Rattle.fort_plain.proofs.Taking.{shut_last}
use Rattle.fort_plain.proofs.journal.replay.Goals as goal

pub loop-pick-init : goal.loop-pick-init
loop-pick-init c =
    record {
      going = c.in_ok-going.ensures.going;
      fuel = c.in_ok-going.ensures.fuel;
      outside = c.in_ok-going.ensures.picks.outer;
      picks = c.in_ok-going.ensures.picks.picks;
    }

pub take-requires-clause-going : goal.take-requires-clause-going
take-requires-clause-going c = c.loop-pick.invariant.going

pub take-requires-clause-outside : goal.take-requires-clause-outside
take-requires-clause-outside c = c.loop-pick.invariant.outside

pub loop-pick-preserved : goal.loop-pick-preserved
loop-pick-preserved c =
    let g = c.loop-pick.going in
    let items = c.as_slice-pick-items.result.now in
    let pick = c.pick-item.result in
    let at = slice_get_read items (length items) c.loop-pick.pick-index pick refl
    c.loop-pick-test.true c.pick-item.is in
    goes_here _ _ _ pick _ _ c.loop-pick.invariant
    (subst (λ ps. slice_get ps c.loop-pick.pick-index
    ≡ Some pick) c.as_slice-pick-items.ensures at)
    (subst (Takes c.args.program.now g.course.fuel false g.course.picks pick) c.in-Out.is
    c.in_ok-later.ensures)

pub returns-in-Illegal : goal.returns-in-Illegal
returns-in-Illegal c =
    let g = c.loop-pick.going in
    let items = c.as_slice-pick-items.result.now in
    let pick = c.pick-item.result in
    let at = slice_get_read items (length items) c.loop-pick.pick-index pick refl
    c.loop-pick-test.true c.pick-item.is in
    let h = subst (Takes c.args.program.now g.course.fuel false g.course.picks pick) c.in-Illegal.is
    c.in_ok-later.ensures in
    breaks_here _ _ _ _ pick _ c.loop-pick.invariant
    (subst (λ ps. slice_get ps c.loop-pick.pick-index
    ≡ Some pick) c.as_slice-pick-items.ensures at) (rw c.get.ensures at c.len-count.ensures)
    (h.never g.course.fuel)

pub returns-in-Passes : goal.returns-in-Passes
returns-in-Passes c =
    let g = c.loop-pick.going in
    let items = c.as_slice-pick-items.result.now in
    let pick = c.pick-item.result in
    let at = slice_get_read items (length items) c.loop-pick.pick-index pick refl
    c.loop-pick-test.true c.pick-item.is in
    let h = subst (Takes c.args.program.now g.course.fuel false g.course.picks pick) c.in-Passes.is
    c.in_ok-later.ensures in
    breaks_here _ _ _ _ pick _ c.loop-pick.invariant
    (subst (λ ps. slice_get ps c.loop-pick.pick-index
    ≡ Some pick) c.as_slice-pick-items.ensures at) (rw c.get.ensures at c.len-count.ensures)
    h.none

pub unreachable-requires : goal.unreachable-requires
unreachable-requires c =
    let g = c.loop-pick.going in
    shut_last _ _ _ _ _
    (subst (Takes c.args.program.now g.course.fuel false g.course.picks c.pick-item.result)
    c.in-Last.is c.in_ok-later.ensures)

pub ended-requires-clause-going : goal.ended-requires-clause-going
ended-requires-clause-going c = c.loop-pick.invariant.going

pub ended-requires-clause-outside : goal.ended-requires-clause-outside
ended-requires-clause-outside c = c.loop-pick.invariant.outside

pub returns : goal.returns
returns c =
    let g = c.loop-pick.going in
    let items = c.as_slice-pick-items.result.now in
    let end : length items ≤ c.loop-pick.pick-index = omega (arith, c.loop-pick-test.false) in
    IfOk-weaker c.ended.result _ _
    (ends_here _ _ _ _ c.loop-pick.invariant
    (subst (λ ps. length ps ≤ c.loop-pick.pick-index) c.as_slice-pick-items.ensures end))
    (subst (λ n. IfOk c.ended.result
    (EndsAt c.args.program.now g.course.fuel g.course.picks c.args.journal.now.ending n))
    c.len.ensures c.ended.ensures)
