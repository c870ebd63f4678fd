use Rattle.fort_tree_flats.proofs.Bodies.{method_flats}
use Rattle.fort_tree_flats.proofs.Steps.{one_added}
use Rattle.fort_tree_flats.proofs.declarations.add_method.Goals as goal

pub returns : goal.returns
returns c = one_added _ c.in_ok-add_maybe_body.ensures (method_flats c.args.method.now)
