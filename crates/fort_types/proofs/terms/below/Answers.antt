use Rattle.fort_types.proofs.Arms.{whole_below}
use Rattle.fort_types.proofs.terms.below.Goals as goal

pub returns : goal.returns
returns c h k = whole_below _ _ _ _ (c.layer_below.ensures h k)
