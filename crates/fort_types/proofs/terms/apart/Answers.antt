use Rattle.fort_types.proofs.Arms.{whole_apart}
use Rattle.fort_types.proofs.terms.apart.Goals as goal

pub returns : goal.returns
returns c h k = whole_apart _ _ _ _ (c.layer_apart.ensures h k)
