use Rattle.std.proofs.Common.{◌≡◌, ◌+◌, Some, None, ap, rules}
use Rattle.fort_store_effects.specs.Cells.{cell}
use Rattle.fort_store_effects.proofs.Touched.{touched_root, touched_top}
use Rattle.fort_store_effects.proofs.layers.Layers.touch.Goals as goal

pub returns-in_ok-settle-in-None-clause-ok : goal.returns-in_ok-settle-in-None-clause-ok
returns-in_ok-settle-in-None-clause-ok c =
    let none : c.args.self.now.top ≡ None = search rules in
    touched_root c.args.self.now c.settle.new.store c.args.loc.0 (cell c.args.change) c.args.cost
    none c.in_ok-settle-in-None.ensures.ok

pub returns-in_ok-join-in-Some-clause-ok : goal.returns-in_ok-join-in-Some-clause-ok
returns-in_ok-join-in-Some-clause-ok c =
    let some : c.args.self.now.top ≡ Some c.in-Some.top = search rules in
    touched_top c.args.self.now c.in-Some.top
    (record {
      cells = c.join.new.self.cells;
      output = c.join.new.self.output;
      cost = c.join.new.self.cost + c.args.cost;
    }) c.args.loc.0 (cell c.args.change)
    c.args.cost some
    c.in_ok-join-in-Some.ensures.ok c.join.ensures.output
    (ap (λ n. n + c.args.cost) c.join.ensures.cost)
