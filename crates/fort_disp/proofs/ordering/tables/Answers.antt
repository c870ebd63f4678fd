use Rattle.std.proofs.Common.{◌≡◌, ◌+◌, ◌<◌, ◌++◌, ◌∷◌, [], length, take, get_or, sym, ap, ◌∙◌, subst}
use Rattle.std.proofs.lemmas.List.{take_more}
use Rattle.fort_disp.specs.Rows.{IsRow, AreRows}
use Rattle.fort_disp.proofs.InOrder.{rows_last}
use Rattle.fort_disp.proofs.ordering.tables.Goals as goal

pub loop-set-preserved : goal.loop-set-preserved
loop-set-preserved c =
    let p = c.args.program.now in
    let i = c.loop-set.set-index in
    let s = c.set-item.result in
    let row = c.in_ok-row_of.field-0 in
    let v = c.as_slice-set-items.ensures in
    let l : i < length p.sets = subst (λ xs. i < length xs) v c.loop-set-test.true in
    let e : s ≡ get_or p.sets i s = c.set-item.is ∙ ap (λ xs. get_or xs i s) v in
    let r = subst (λ ms. IsRow p ms row) c.as_slice.ensures c.in_ok-row_of.ensures in
    subst (AreRows p (take (i + 1) p.sets)) (sym c.in_ok-push.ensures.ok)
    (subst (λ x. AreRows p x (c.loop-set.rows ++ row ∷ [])) (ap (λ y. take i p.sets ++ y ∷ []) e
    ∙ sym (take_more p.sets i s l))
    (rows_last p (take i p.sets) c.loop-set.rows s row c.loop-set.invariant r))
