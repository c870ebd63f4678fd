use Rattle.std.proofs.Common.{Some, ap}
use Rattle.fort_tree.specs.declared.expr.Prefix.{Prefix}
use Rattle.fort_tree.specs.Measures.{prefix_spot}
use Rattle.fort_tree_flats.proofs.spots.prefix_spot.Goals as goal

pub returns-in-Minus : goal.returns-in-Minus
returns-in-Minus c at = ap (λ (p : Prefix). prefix_spot (Some p) at) c.in-Minus.is

pub returns-in-Not : goal.returns-in-Not
returns-in-Not c at = ap (λ (p : Prefix). prefix_spot (Some p) at) c.in-Not.is
