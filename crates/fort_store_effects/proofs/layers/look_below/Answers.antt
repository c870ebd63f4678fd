use Rattle.std.proofs.Common.{◌-◌, ◌<◌, length, rules, arith}
use Rattle.fort_store_effects.specs.declared.cell.Left.TheVariants.{Here, Gone, Below}
use Rattle.fort_store_effects.proofs.Seen.{look_ends}
use Rattle.fort_store_effects.proofs.layers.look_below.Goals as goal

pub returns-in-Here : goal.returns-in-Here
returns-in-Here c =
    let some : 0 < c.loop-i.i = search rules in
    let within : c.loop-i.i - 1 < length c.args.below.now =
    omega (arith, c.loop-i.auto.i, c.loop-i-test.true) in
    look_ends _ _ _ _ _ _ (Here c.in-Here.value) c.loop-i.invariant some within c.index-below-i.is
    c.in-Here.ensures

pub returns-in-Gone : goal.returns-in-Gone
returns-in-Gone c =
    let some : 0 < c.loop-i.i = search rules in
    let within : c.loop-i.i - 1 < length c.args.below.now =
    omega (arith, c.loop-i.auto.i, c.loop-i-test.true) in
    look_ends _ _ _ _ _ _ Gone c.loop-i.invariant some within c.index-below-i.is c.in-Gone.ensures

pub loop-i-preserved : goal.loop-i-preserved
loop-i-preserved c =
    let some : 0 < c.loop-i.i = search rules in
    let within : c.loop-i.i - 1 < length c.args.below.now =
    omega (arith, c.loop-i.auto.i, c.loop-i-test.true) in
    look_ends _ _ _ _ _ _ Below c.loop-i.invariant some within c.index-below-i.is c.in-Below.ensures
