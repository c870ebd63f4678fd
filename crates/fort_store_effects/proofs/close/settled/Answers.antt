use Rattle.std.proofs.Common.{◌≡◌, arith}
use Rattle.indexmap.specs.IndexMap.{index_map_len}
use Rattle.fort_store_effects.proofs.Popped.{settled_all}
use Rattle.fort_store_effects.proofs.close.settled.Goals as goal

pub returns : goal.returns
returns c =
    let none : index_map_len c.loop-at.cells ≡ 0 =
    omega (arith, c.loop-at.invariant.2, c.loop-at-test.false, c.len-count.ensures.len) in
    settled_all c.args.closing c.args.store c.loop-at.store c.args.cells c.loop-at.cells none
    c.loop-at.invariant.0
