use Rattle.std.proofs.Common.{◌+◌, ap}
use Rattle.fort_store_effects.proofs.Taken.{made_layer}
use Rattle.fort_store_effects.proofs.layer.Layer.make.Goals as goal

pub returns : goal.returns
returns c =
    made_layer c.args.self.now
    (record {
      cells = c.make_in_layer.new.layer.cells;
      output = c.make_in_layer.new.layer.output;
      cost = c.make_in_layer.new.layer.cost + c.args.cost;
    }) c.args.first.0 c.args.values.now
    c.args.cost c.in_ok-make_in_layer.ensures.cells c.make_in_layer.ensures.output
    (ap (λ n. n + c.args.cost) c.make_in_layer.ensures.cost)
