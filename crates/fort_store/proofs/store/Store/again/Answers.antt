use Rattle.std.proofs.Common.{◌≡◌, ◌-◌, ◌<◌, Some, slice_get, sym, arith, rules}
use Rattle.fort_store.specs.Held.{held, settled}
use Rattle.fort_store.proofs.Again.{all_there, one_more}
use Rattle.fort_store.proofs.store.Store.again.Goals as goal

pub loop-i-preserved : goal.loop-i-preserved
loop-i-preserved c =
    let some : 0 < c.loop-i.i = search rules in
    let kept = settled c.args.self.now.trees.items in
    one_more c.args.self.now.recent.entries c.loop-i.i (c.in-Some.loc.now, c.in-Some.value.now)
    c.in_ok-share.field-0 (held c.loop-i.store) (held c.put.new.self) kept some
    (sym c.in-Some.ensures.entry) c.in_ok-share.ensures c.loop-i.invariant c.in_ok-put.ensures.ok

pub returns : goal.returns
returns c =
    let none : c.loop-i.i ≡ 0 = omega (arith, c.loop-i-test.false) in
    all_there c.args.self.now.recent.entries c.loop-i.i (held c.loop-i.store)
    (settled c.args.self.now.trees.items) none c.loop-i.invariant
