use Rattle.std.proofs.Common.{◌≡◌, ◌≤◌, length, true, false, refl, sym, ◌∙◌, subst, arith}
use Rattle.std.proofs.lemmas.Option.{slice_get_read}
use Rattle.fort_store_effects.specs.Levels.{levels_of, seen}
use Rattle.fort_hall_books.specs.Legs.{AllThere}
use Rattle.fort_hall_books.proofs.Watched.{one_there, one_more, all_there}
use Rattle.fort_hall_forms.proofs.first.are_there.Goals as goal

pub returns-then-not-has : goal.returns-then-not-has
returns-then-not-has c =
    let s = seen (levels_of c.args.view.now) in
    let marks = c.as_slice-mark-items.result.now in
    let at = slice_get_read marks (length marks) c.loop-mark.mark-index c.mark-item.result refl
    c.loop-mark-test.true c.mark-item.is in (
      λ e. let z : false ≡ true = e in absurd cc,
      λ h. sym c.if-not-has.true
          ∙ c.has.ensures.1
          (one_there s marks c.loop-mark.mark-index c.mark-item.result at
          (subst (AllThere s) (sym c.as_slice-mark-items.ensures) h)),
    )

pub loop-mark-preserved : goal.loop-mark-preserved
loop-mark-preserved c =
    let s = seen (levels_of c.args.view.now) in
    let marks = c.as_slice-mark-items.result.now in
    let at = slice_get_read marks (length marks) c.loop-mark.mark-index c.mark-item.result refl
    c.loop-mark-test.true c.mark-item.is in
    one_more s marks c.loop-mark.mark-index c.mark-item.result at c.loop-mark.invariant
    (c.has.ensures.0 c.if-not-has.false)

pub returns : goal.returns
returns c =
    let s = seen (levels_of c.args.view.now) in
    let marks = c.as_slice-mark-items.result.now in
    let end : length marks ≤ c.loop-mark.mark-index = omega (arith, c.loop-mark-test.false) in (
      λ e. subst (AllThere s) c.as_slice-mark-items.ensures
          (all_there s marks c.loop-mark.mark-index end c.loop-mark.invariant),
      λ h. refl,
    )
