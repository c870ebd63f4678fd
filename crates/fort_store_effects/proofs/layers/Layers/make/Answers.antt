use Rattle.std.proofs.Common.{◌≡◌, ◌+◌, Some, None, ap, rules}
use Rattle.fort_store_effects.proofs.Made.{puts_root, puts_top}
use Rattle.fort_store_effects.proofs.layers.Layers.make.Goals as goal

pub returns-in_ok-make_in_store-in-None : goal.returns-in_ok-make_in_store-in-None
returns-in_ok-make_in_store-in-None c =
    let none : c.args.self.now.top ≡ None = search rules in
    puts_root c.args.self.now c.make_in_store.new.store c.args.first.0 c.args.values.now c.args.cost
    c.requires.free none c.in_ok-make_in_store-in-None.ensures

pub returns-in_ok-make_in_layer-in-Some : goal.returns-in_ok-make_in_layer-in-Some
returns-in_ok-make_in_layer-in-Some c =
    let some : c.args.self.now.top ≡ Some c.in-Some.top = search rules in
    puts_top c.args.self.now c.in-Some.top
    (record {
      cells = c.make_in_layer.new.layer.cells;
      output = c.make_in_layer.new.layer.output;
      cost = c.make_in_layer.new.layer.cost + c.args.cost;
    }) c.args.first.0 c.args.values.now
    c.args.cost c.requires.free some
    c.in_ok-make_in_layer-in-Some.ensures.cells c.make_in_layer.ensures.output
    (ap (λ n. n + c.args.cost) c.make_in_layer.ensures.cost)
