use Rattle.std.proofs.Common.{◌+◌, take, get_or, sym, subst}
use Rattle.std.specs.List.{insert}
use Rattle.std.proofs.lemmas.List.{take_more}
use Rattle.fort_base.specs.declared.ids.DeclId.{DeclId}
use Rattle.fort_disp.specs.Rows.{IsRow}
use Rattle.fort_disp.specs.Fits.{goes_before, HoldsNowhere, HoldsThere}
use Rattle.fort_disp.proofs.InOrder.{next_row}
use Rattle.fort_disp.proofs.ordering.row_of.Goals as goal

pub loop-number-preserved : goal.loop-number-preserved
loop-number-preserved c =
    let p = c.args.program.now in
    let ms = c.args.members.now in
    let i = c.loop-number.number-index in
    let k = c.place-at.result in
    let row = c.loop-number.row.items in
    let z : DeclId = record { 0 = 0 } in
    let d : DeclId = get_or ms i z in
    let f = subst (λ r. HoldsNowhere (goes_before p d) r 0 k) c.as_slice.ensures.value
    c.place-at.ensures.passed in
    let g = subst (λ r. HoldsThere (goes_before p d) r k) c.as_slice.ensures.value
    c.place-at.ensures.stands in
    subst (IsRow p (take (i + 1) ms)) (sym c.in_ok-insert.ensures.items)
    (subst (λ x. IsRow p x (insert row k d)) (sym (take_more ms i z c.loop-number-test.true))
    (next_row p (take i ms) row d k c.loop-number.invariant f g))
