use Rattle.std.proofs.Common.{◌∙◌}
use Rattle.fort_store_effects.specs.Levels.{cells_of}
use Rattle.fort_store_effects.proofs.Made.{layer_at}
use Rattle.fort_store_effects.proofs.make.make_in_layer.Goals as goal

pub loop-i-preserved : goal.loop-i-preserved
loop-i-preserved c = (
  layer_at (cells_of c.args.layer.now) (cells_of c.loop-i.layer) (cells_of c.make_value.new.layer)
      c.args.«at» c.args.values.now c.loop-i.i c.loop-i.invariant.0
      c.in_ok-make_value.ensures.cells,
  c.make_value.ensures.output ∙ c.loop-i.invariant.1,
  c.make_value.ensures.cost ∙ c.loop-i.invariant.2,
)
