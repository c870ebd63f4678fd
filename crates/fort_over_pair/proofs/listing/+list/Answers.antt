use Rattle.std.proofs.Common.{◌≡◌, true, false, refl, arith}
use Rattle.fort_over_pair.proofs.Counted.{lesser_listed, greater_listed}
use Rattle.fort_over_pair.proofs.Results.{layer_list_result, only_result, choices_result, tuples_result, list_at, out_tuple_at}
use Rattle.fort_over_pair.proofs.listing.+list.Goals as goal

pub layer_list-returns-in-Tuple-Tuple : goal.layer_list-returns-in-Tuple-Tuple
layer_list-returns-in-Tuple-Tuple t c =
    list_at _ _ _ _ _ _ (out_tuple_at _ _ _ c.in-Tuple-Tuple.is-0 c.as_slice.ensures)
    (out_tuple_at _ _ _ c.in-Tuple-Tuple.is-1 c.as_slice-in-Tuple-Tuple.ensures)
    c.list_parts.ensures

pub list_choices-returns : goal.list_choices-returns
list_choices-returns t c =
    choices_result _ _ _ _ _ _ c.as_slice.ensures c.requires.alike c.in_ok-lists.ensures
    c.all_ways.ensures

pub list_meets-returns-then-below : goal.list_meets-returns-then-below
list_meets-returns-then-below t c =
    only_result _ _ _ _ _ (λ h s k. lesser_listed h s _ _ ((c.if-below.ensures h k).0 refl))
    c.only.ensures

pub list_meets-returns-then-below-2 : goal.list_meets-returns-then-below-2
list_meets-returns-then-below-2 t c =
    only_result _ _ _ _ _ (λ h s k. greater_listed h s _ _ ((c.if-below-2.ensures h k).0 refl))
    c.only-then-below-2.ensures

pub list_meets-returns : goal.list_meets-returns
list_meets-returns t c =
    layer_list_result _ _ _ _ (λ h k w. let f : false ≡ true = (c.if-below.ensures h k).1 w in cc)
    (λ h k w. let f : false ≡ true = (c.if-below-2.ensures h k).1 w in cc) c.layer_list.ensures

pub list_parts-returns : goal.list_parts-returns
list_parts-returns t c =
    tuples_result _ _ _ _ _ _ c.as_slice.ensures (let n = c.if-xs-ys.false
    in omega arith) c.in_ok-choices.ensures c.tuples.ensures
