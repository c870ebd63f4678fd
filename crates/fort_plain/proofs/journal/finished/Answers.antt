use Rattle.std.proofs.Common.{◌≡◌, true, false, refl, sym, subst, ◌∙◌}
use Rattle.fort_plain.specs.Replays.{EndsAt}
use Rattle.fort_plain.proofs.Ending.{right_end, wrong_end}
use Rattle.fort_plain.proofs.journal.finished.Goals as goal

pub returns-then-ends_so : goal.returns-then-ends_so
returns-then-ends_so c =
    let g = c.args.going in
    subst (EndsAt c.args.program.now g.course.fuel g.course.picks c.args.ending.now c.args.count)
    (sym c.run.ensures)
    (right_end _ g c.in_ok-term.term _ c.requires.going c.requires.outside
    (rw c.clock.ensures at c.in_ok-term.ensures) (c.ends_so.ensures.0 c.if-ends_so.true))

pub returns-else-ends_so : goal.returns-else-ends_so
returns-else-ends_so c = (
  refl,
  wrong_end _ c.args.going c.in_ok-term.term _ c.requires.going c.requires.outside
      (rw c.clock.ensures at c.in_ok-term.ensures) c.requires.no_pick (λ h. let z : true
      ≡ false = sym (c.ends_so.ensures.1 h) ∙ c.if-ends_so.false in absurd cc),
)
