use Rattle.std.proofs.Common.{◌≡◌, ◌∙◌, length, subst, arith}
use Rattle.fort_disp.specs.Fits.{fits, HoldsNowhere, HoldsThere}
use Rattle.fort_disp.proofs.Fitting.{none_after, answered}
use Rattle.fort_disp.proofs.Loops.{got}
use Rattle.fort_disp.proofs.finding.first.Goals as goal

pub loop-place-init : goal.loop-place-init
loop-place-init g c =
    let t = c.tick.ensures in (c.next-at.ensures.passed, c.next-at.ensures.stands, omega (arith, t))

pub advanced-at-requires : goal.advanced-at-requires
advanced-at-requires g c =
    record {
      within = let t = c.loop-place-test.true in let l = c.len-place-end.type_inv
          in omega (arith, t, l);
      stands = c.loop-place.invariant.1;
    }

pub loop-place-preserved : goal.loop-place-preserved
loop-place-preserved g c =
    let t = c.tick-in-loop-place.ensures in
    let i = c.loop-place.invariant.2 in (
      none_after c.args.program.now c.args.values.now c.loop-place.place c.args.row.now
          c.loop-place.at c.advanced-at.result c.loop-place.invariant.0
          c.advanced-at.ensures.passed,
      c.advanced-at.ensures.stands,
      omega (arith, t, i),
    )

pub returns-clause-first : goal.returns-clause-first
returns-clause-first g c =
    let l = c.loop-place-test.false in
    let b = c.loop-place.auto.place-end in
    let e = c.len-place-end.ensures in
    let same : c.loop-place.place ≡ length c.args.values.now = omega (arith, l, b, e) in
    answered c.args.program.now c.args.values.now c.args.row.now c.loop-place.at
    (subst (λ n. HoldsNowhere (fits c.args.program.now c.args.values.now n) c.args.row.now 0
    c.loop-place.at) same c.loop-place.invariant.0)
    (subst (λ n. HoldsThere (fits c.args.program.now c.args.values.now n) c.args.row.now
    c.loop-place.at) same c.loop-place.invariant.1)
    c.copied.result (c.copied.ensures
    ∙ got _ c.args.row.now c.loop-place.at c.get.result c.get.ensures.lookup.3
    c.get.ensures.lookup.1)

pub returns-clause-steps : goal.returns-clause-steps
returns-clause-steps g c =
    let i = c.loop-place.invariant.2 in
    let b = c.loop-place.auto.place-end in
    let e = c.len-place-end.ensures in
    omega (arith, i, b, e)
