use Rattle.std.proofs.Common.{◌<◌, rules, sym}
use Rattle.fort_store_effects.proofs.Behind.{one_more}
use Rattle.fort_store_effects.proofs.layer.Layer.silent.Goals as goal

pub loop-i-preserved : goal.loop-i-preserved
loop-i-preserved c =
    let some : 0 < c.loop-i.i = search rules in
    one_more c.args.self.now.cells.entries c.loop-i.i (c.in-Some.loc.now, c.in-Some.cell.now)
    c.in_ok-copy.field-0 _ _ some (sym c.in-Some.ensures.entry) c.in_ok-copy.ensures
    c.loop-i.invariant c.in_ok-put.ensures
