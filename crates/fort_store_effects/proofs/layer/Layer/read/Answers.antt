use Rattle.std.proofs.Common.{◌+◌, Some, None, ap, ◌∙◌}
use Rattle.fort_machine.specs.Cells.{found}
use Rattle.fort_machine.specs.Effects.{both, reading}
use Rattle.fort_store_effects.specs.Levels.{effect_of}
use Rattle.fort_store_effects.proofs.Touched.{touched_layer}
use Rattle.fort_store_effects.proofs.layer.Layer.read.Goals as goal

pub returns : goal.returns
returns c =
    touched_layer c.args.self.now
    (record {
      cells = c.join.new.self.cells;
      output = c.join.new.self.output;
      cost = c.join.new.self.cost + 1;
    }) c.args.loc.0 (found (Some c.in_ok-read.read) None) 1
    c.in_ok-join.ensures.ok c.join.ensures.output (ap (λ n. n + 1) c.join.ensures.cost)
    ∙ ap (λ v. both (effect_of c.args.self.now) (reading c.args.loc.0 v)) c.in_ok-read.ensures
