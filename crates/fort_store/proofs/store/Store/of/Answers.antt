use Rattle.std.proofs.Common.{◌≡◌, ◌-◌, ◌<◌, Some, slice_get, length, rules, refl, arith}
use Rattle.std.proofs.lemmas.Option.{slice_get_read}
use Rattle.fort_store.proofs.Puts.{none_yet, one_more}
use Rattle.fort_store.proofs.store.Store.of.Goals as goal

pub loop-i-init : goal.loop-i-init
loop-i-init c =
    none_yet c.args.program.now.opening _ _ c.as_slice-opening.ensures c.new-store.ensures

pub loop-i-preserved : goal.loop-i-preserved
loop-i-preserved c =
    let some : 0 < c.loop-i.i = search rules in
    let within : c.loop-i.i - 1 < length c.as_slice-opening.result.now =
    omega (arith, c.loop-i.auto.i, c.loop-i-test.true) in
    let here : slice_get c.as_slice-opening.result.now (c.loop-i.i - 1)
    ≡ Some c.index-opening-i.result = slice_get_read _ _ _ _ refl within c.index-opening-i.is in
    one_more c.args.program.now.opening _ _ _ _ _ _ c.as_slice-opening.ensures some here
    c.in_ok-copy.ensures c.loop-i.invariant c.in_ok-put.ensures.ok
