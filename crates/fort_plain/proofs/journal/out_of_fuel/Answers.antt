use Rattle.std.proofs.Common.{◌≡◌, true, false, refl, sym, subst, ◌∙◌}
use Rattle.fort_core.specs.declared.journal.Ending.TheVariants.{OutOfFuel}
use Rattle.fort_plain.specs.Replays.{EndsAt}
use Rattle.fort_plain.specs.Within.{Takes}
use Rattle.fort_plain.proofs.Ending.{ajar_out, covered_out, ends_out, none_out, raised}
use Rattle.fort_plain.proofs.journal.out_of_fuel.Goals as goal

pub take-requires-clause-going : goal.take-requires-clause-going
take-requires-clause-going c =
    rw c.with_fuel-course.ensures
    (raised _ c.args.going _ _ c.requires.going (rw c.get.ensures at c.most.ensures) refl)

pub returns-then-is_over : goal.returns-then-is_over
returns-then-is_over c =
    let g = c.args.going in
    let h = subst (Takes c.args.program.now c.most.result true g.course.picks c.args.pick.now)
    c.in-Last.is (rw c.with_fuel-course.ensures at c.in_ok-course.ensures) in
    subst (EndsAt c.args.program.now g.course.fuel g.course.picks (OutOfFuel c.args.pick.now)
    c.args.count) (sym c.run.ensures)
    (ends_out _ g g.course.fuel _ _ _ c.requires.going c.requires.outside h.ends
    (rw c.get.ensures at ((c.is_over.ensures h.ends.effect.cost h.ends.is_cost).0
    c.if-is_over.true)) refl)

pub returns-else-is_over : goal.returns-else-is_over
returns-else-is_over c =
    let g = c.args.going in
    let h = subst (Takes c.args.program.now c.most.result true g.course.picks c.args.pick.now)
    c.in-Last.is (rw c.with_fuel-course.ensures at c.in_ok-course.ensures) in (
      refl,
      covered_out _ g g.course.fuel _ _ c.in-Last.cost h.ends
          (λ over. let z : true ≡ false =
          sym ((rw c.get.ensures at (c.is_over.ensures h.ends.effect.cost h.ends.is_cost)).1 over)
          ∙ c.if-is_over.false in absurd cc),
    )

pub returns-in-Illegal : goal.returns-in-Illegal
returns-in-Illegal c =
    let g = c.args.going in
    let h = subst (Takes c.args.program.now c.most.result true g.course.picks c.args.pick.now)
    c.in-Illegal.is (rw c.with_fuel-course.ensures at c.in_ok-course.ensures)
    in (refl, none_out _ g.course.fuel g.course.picks _ h)

pub unreachable-requires : goal.unreachable-requires
unreachable-requires c =
    let g = c.args.going in
    ajar_out _ _ _ _
    (subst (Takes c.args.program.now c.most.result true g.course.picks c.args.pick.now)
    c.in-Out.is (rw c.with_fuel-course.ensures at c.in_ok-course.ensures))
