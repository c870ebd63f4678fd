use Rattle.std.proofs.Common.{◌+◌, Some, None, ap}
use Rattle.fort_machine.specs.Cells.{found}
use Rattle.fort_store_effects.proofs.Touched.{touched_layer}
use Rattle.fort_store_effects.proofs.layer.Layer.write.Goals as goal

pub returns : goal.returns
returns c =
    touched_layer c.args.self.now
    (record {
      cells = c.join.new.self.cells;
      output = c.join.new.self.output;
      cost = c.join.new.self.cost + 1;
    }) c.args.loc.0 (found None (Some c.args.value)) 1
    c.in_ok-join.ensures.ok c.join.ensures.output (ap (λ n. n + 1) c.join.ensures.cost)
